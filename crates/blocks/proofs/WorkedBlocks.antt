-- The worked values, and the laws of all blocks.
use Rattle.std.proofs.Common.{◌≡◌, ℕ, List, get_or, drop, Ok, refl, inl, arith}
use Rattle.refusal.specs.declared.kinds.Refusal.{Refusal}
use Rattle.blocks.specs.Bits.{bits, number, packed, unpacked}
use Rattle.blocks.specs.Blocks.{pointer, fields, block_of, InvalidFrom, pointer_invalid, code_invalid, later, header_invalid, field_invalid}
use Rattle.blocks.specs.Steps.{reading}
use Rattle.blocks.specs.Worked.{WorkedBlocks, OneReading, OneFirst}
use Rattle.blocks.proofs.Inverse.{starts, reads_back}

pub worked_blocks : WorkedBlocks
unfolding block_of pointer fields packed unpacked bits number
worked_blocks = record {
  ten_ready_idles = refl;
  error_in_octet_nine = refl;
  more_after_position_nine = λ rest. field_invalid refl (pointer_invalid (λ v. v.last refl refl));
  position_past_the_end = λ rest. field_invalid refl (pointer_invalid (λ v. omega (arith, v.inside)));
  position_passed_already = λ rest. field_invalid refl (later (record { ahead = omega arith; inside = omega arith; last = omega arith }) (inl refl) refl (pointer_invalid (λ v. omega (arith, v.ahead))));
  code_of_no_control = λ rest. field_invalid refl (code_invalid (record { ahead = omega arith; inside = omega arith; last = omega arith }) (λ c. omega (arith, c)));
}

pub one_reading : OneReading
one_reading block cs ds d e =
    let p : reading (starts (get_or block 0 0)) 0 (drop 1 block) ≡ Ok cs = rw d.makes (reads_back cs d.ten d.characters) in
    let q : reading (starts (get_or block 0 0)) 0 (drop 1 block) ≡ Ok ds = rw e.makes (reads_back ds e.ten e.characters) in
    cc

first_once : {n : ℕ} {bs : List ℕ} {one other : Refusal} → InvalidFrom n bs one → InvalidFrom n bs other → one ≡ other
first_once (pointer_invalid v) (pointer_invalid w) = refl
first_once (pointer_invalid v) (code_invalid w c) = absurd (v w)
first_once (pointer_invalid v) (later w c m i) = absurd (v w)
first_once (code_invalid v c) (pointer_invalid w) = absurd (w v)
first_once (code_invalid v c) (code_invalid w d) = refl
first_once (code_invalid v c) (later w d m i) = absurd (c d)
first_once (later v c m i) (pointer_invalid w) = absurd (w v)
first_once (later v c m i) (code_invalid w d) = absurd (d c)
first_once (later v c m i) (later w d k j) = first_once i j

pub one_first : OneFirst
one_first block one other (header_invalid h) (header_invalid i) = refl
one_first block one other (header_invalid h) (field_invalid i d) = absurd (omega arith)
one_first block one other (field_invalid h d) (header_invalid i) = absurd (omega arith)
one_first block one other (field_invalid h d) (field_invalid i e) = first_once d e
