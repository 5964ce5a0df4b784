-- What a word carries, and what is then told of it.
use Rattle.std.proofs.Common.{◌≡◌, ℕ, zero, suc, ◌+◌, ◌*◌, ◌/◌, ◌%◌, ◌^◌, ◌<◌, List, [], ◌∷◌, ◌++◌, length, get_or, take, drop, Some, None, Option, sym, refl, ap, ◌∙◌, subst, div-one, arith}
use native.Mathlib.Nat.{pow-succ'}
use Rattle.std.proofs.lemmas.Nat.{shr-shr}
use Rattle.std.proofs.lemmas.List.{length-drop, get_or-take, get_or_push, take_at, take-append-drop, nil_from_length}
use Rattle.blocks.specs.Bits.{packed, unpacked}
use Rattle.blocks.specs.Blocks.{block_of, Encodes}
use Rattle.blocks.specs.Characters.{Characters}
use Rattle.blocks.specs.Faults.{block_refusal}
use Rattle.blocks.proofs.NeverBoth.{never_both}
use Rattle.blocks.proofs.Packing.{length_packed}
use Rattle.codec.specs.Frames.{block_bits, block_from, ten_at, blocks_bits, message_of, block_at, symbol_of}
use Rattle.codec.specs.Reports.{Contains, FirstFault, FrameTold}
use Rattle.codec.specs.declared.faults.FrameFault.{FrameFault}
use Rattle.blocks.proofs.Invalid.{Octets}
use Rattle.codec.proofs.FrameBits.{eleven_of, header_of, octets_of, back_from_symbols, block_at_is, symbols_at, ten_later, message_is}
use Rattle.codec.proofs.FrameWriting.{ten_long, ten_characters}
use Rattle.codec.proofs.FrameReading.{in_front}

-- as many characters are the same where each ten of them are

same_tens : (n : ℕ) (cs ds : List ℕ) → length cs ≡ 10 * n → length ds ≡ 10 * n → ((k : ℕ) → k < n → ten_at cs k ≡ ten_at ds k) → cs ≡ ds
same_tens zero cs ds h l e = nil_from_length cs h ∙ sym (nil_from_length ds l)
same_tens (suc n) cs ds h l e =
    let more : drop 10 cs ≡ drop 10 ds = same_tens n (drop 10 cs) (drop 10 ds) (omega (arith, length-drop 10 cs)) (omega (arith, length-drop 10 ds)) (λ k b. ten_later cs k ∙ e (suc k) (omega arith) ∙ sym (ten_later ds k)) in
    sym (take-append-drop 10 cs) ∙ ap (λ t. t ++ drop 10 cs) (e 0 (omega arith)) ∙ ap (λ t. take 10 ds ++ t) more ∙ take-append-drop 10 ds

pub tens : (cs ds : List ℕ) → length cs ≡ 450 → length ds ≡ 450 → ((k : ℕ) → k < 45 → ten_at cs k ≡ ten_at ds k) → cs ≡ ds
tens cs ds h l e = same_tens 45 cs ds h l e

-- a word carries characters and a management symbol

pub record Carried (characters : List ℕ) (management : ℕ) (word : List ℕ) : Type 0 where
  pub full : length characters ≡ 450
  pub encodes : (k : ℕ) → k < 45 → Encodes (block_at word k) (ten_at characters k)
  pub symbol : symbol_of word ≡ management

nine_of_message : (cs : List ℕ) (symbol k : ℕ) → symbol < 512 → k < 45 → take 9 (drop (9 * k) (message_of cs symbol)) ≡ packed 9 9 (block_bits (block_of (ten_at cs k)))
nine_of_message cs symbol k s h =
    let front : List ℕ = packed 9 405 (blocks_bits 45 cs) in
    ap (λ t. take 9 (drop (9 * k) t)) (message_is cs symbol s)
    ∙ sym (in_front 9 405 (9 * k) (front ++ symbol ∷ []) (omega arith))
    ∙ ap (λ t. take 9 (drop (9 * k) t)) (take_at front (symbol ∷ []) 405 (length_packed 9 405 (blocks_bits 45 cs)))
    ∙ symbols_at 45 cs k h

carried_block : (cs word : List ℕ) (symbol k : ℕ) → symbol < 512 → k < 45 → take 406 word ≡ message_of cs symbol → block_at word k ≡ block_of (ten_at cs k)
carried_block cs word symbol k s h e =
    block_at_is word k
    ∙ ap (λ t. block_from (unpacked 9 t)) (sym (in_front 9 406 (9 * k) word (omega arith)) ∙ ap (λ t. take 9 (drop (9 * k) t)) e ∙ nine_of_message cs symbol k s h)
    ∙ back_from_symbols (block_of (ten_at cs k)) (eleven_of (ten_at cs k)) (octets_of (ten_at cs k)) (header_of (ten_at cs k))

carried_symbol : (cs word : List ℕ) (symbol : ℕ) → symbol < 512 → take 406 word ≡ message_of cs symbol → symbol_of word ≡ symbol
carried_symbol cs word symbol s e =
    sym (get_or-take 406 word 405 0 (omega arith))
    ∙ ap (λ t. get_or t 405 0) (e ∙ message_is cs symbol s)
    ∙ get_or_push (packed 9 405 (blocks_bits 45 cs)) symbol 0 405 (length_packed 9 405 (blocks_bits 45 cs))

pub carried : (characters : List ℕ) (symbol : ℕ) (word : List ℕ) → length characters ≡ 450 → Characters characters → symbol < 512 → take 406 word ≡ message_of characters symbol → Carried characters symbol word
carried characters symbol word l cs_are s e = record {
  full = l;
  encodes = λ k h. record { ten = ten_long characters k l h; characters = ten_characters characters k l cs_are h; makes = carried_block characters word symbol k s h e };
  symbol = carried_symbol characters word symbol s e;
}

-- what is told of a word that carries characters

no_block : (n set : ℕ) → set < 2 ^ n → ((k : ℕ) → k < n → Contains set k → ⊥) → set ≡ 0
no_block zero set h out = omega arith
no_block (suc n) set h out =
    let odd : set % 2 ≡ 1 → ⊥ = λ e. out 0 (omega arith) (ap (λ x. x % 2) (div-one set) ∙ e) in
    let half : set / 2 ≡ 0 = no_block n (set / 2) (omega (arith, pow-succ' 2 n)) (λ k l c. out (suc k) (omega arith) (ap (λ x. x % 2) (sym (later k)) ∙ c)) in
    omega arith
  where
    later : (k : ℕ) → set / 2 / 2 ^ k ≡ set / 2 ^ suc k
    later k = let e : 1 + k ≡ suc k = omega arith in shr-shr set 1 k ∙ ap (λ i. set / 2 ^ i) e

no_fault : (characters word : List ℕ) (symbol : ℕ) (fault : Option FrameFault) → Carried characters symbol word → FirstFault word fault → fault ≡ None
no_fault characters word symbol None c f = refl
no_fault characters word symbol (Some found) c (l, i, b) =
    let e = c.encodes found.block l in
    absurd (never_both (block_at word found.block) (ten_at characters found.block) (block_refusal found.fault) (subst Octets (sym e.makes) (octets_of (ten_at characters found.block))) e i)

pub told_clean : (characters handed word : List ℕ) (symbol invalid : ℕ) (fault : Option FrameFault) → Carried characters symbol word → FrameTold word handed invalid fault → (handed ≡ characters) × (invalid ≡ 0) × (fault ≡ None)
told_clean characters handed word symbol invalid fault c t = (
  tens handed characters t.full c.full (λ k l. sym (((t.blocks k l).otherwise (valid k l)).1 (ten_at characters k) (c.encodes k l))),
  no_block 45 invalid t.no_further valid,
  no_fault characters word symbol fault c t.first,
)
  where
    valid : (k : ℕ) → k < 45 → Contains invalid k → ⊥
    valid k l d = (t.blocks k l).invalid_when_none.0 d (ten_at characters k) (c.encodes k l)
