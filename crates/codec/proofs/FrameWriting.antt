-- The word that a frame is written into, block after block.
use Rattle.std.proofs.Common.{◌≡◌, ℕ, zero, suc, ◌+◌, ◌-◌, ◌*◌, ◌<◌, List, ◌∷◌, ◌++◌, length, get_or, take, drop, set, replicate, map, sym, refl, ap, ◌∙◌, subst, append_assoc, arith}
use borrow.Rule.Slice.PartMut.{put_mid}
use Rattle.std.specs.List.{take-map, drop-map}
use Rattle.std.proofs.lemmas.List.{length-append, length-take-le, length-drop, get_or-take, get_or-drop, set-append_right, take_at, drop_at, drop-replicate}
use Rattle.blocks.specs.Bits.{packed}
use Rattle.blocks.specs.Blocks.{block_of}
use Rattle.blocks.specs.Characters.{Characters}
use Rattle.blocks.specs.Numbers.{number_of}
use Rattle.blocks.specs.declared.character.Character.{Character}
use Rattle.blocks.proofs.Packing.{length_packed, packed_below, take_past}
use Rattle.code.specs.Words.{Word}
use Rattle.code.proofs.Completion.{append_small}
use Rattle.code.proofs.Registers.{zeros_small}
use Rattle.codec.specs.Frames.{block_bits, ten_at, blocks_bits, message_of}
use Rattle.codec.proofs.FrameSymbols.{Small}
use Rattle.codec.proofs.FrameBits.{symbols_more, bits_blocks_bits, message_is}

-- ten characters of a frame

pub ten_long : (cs : List ℕ) (k : ℕ) → length cs ≡ 450 → k < 45 → length (ten_at cs k) ≡ 10
ten_long cs k l h = length-take-le 10 (drop (10 * k) cs) (omega (arith, length-drop (10 * k) cs))

pub ten_characters : (cs : List ℕ) (k : ℕ) → length cs ≡ 450 → Characters cs → k < 45 → Characters (ten_at cs k)
ten_characters cs k l cs_are h i b =
    let n : length (ten_at cs k) ≡ 10 = ten_long cs k l h in
    let e : get_or (ten_at cs k) i 0 ≡ get_or cs (10 * k + i) 0 = get_or-take 10 (drop (10 * k) cs) i 0 (omega arith) ∙ get_or-drop (10 * k) cs i 0 in
    rw e (cs_are (10 * k + i) (omega arith))

pub ten_numbers : (cs ten : List Character) (k : ℕ) → ten ≡ take 10 (drop (10 * k) cs) → map number_of ten ≡ ten_at (map number_of cs) k
ten_numbers cs ten k e = ap (map number_of) e ∙ sym (take-map number_of 10 (drop (10 * k) cs)) ∙ ap (take 10) (sym (drop-map number_of (10 * k) cs))

-- the symbols of the first k blocks, and zeros

abbrev pub Written : List ℕ → ℕ → List ℕ → Type 0
Written cs k word = word ≡ packed 9 (9 * k) (blocks_bits k cs) ++ replicate (450 - 9 * k) 0

pub written_none : (cs : List ℕ) → Written cs 0 (replicate 450 0)
unfolding packed
written_none cs = refl

pub written_more : (cs : List ℕ) (k n : ℕ) (word ys : List ℕ) → k < 45 → n ≡ 9 → Written cs k word → ys ≡ packed 9 9 (block_bits (block_of (ten_at cs k))) → Written cs (k + 1) (put_mid (9 * k) n word ys)
written_more cs k n word ys h m e f =
    let front : List ℕ = packed 9 (9 * k) (blocks_bits k cs) in
    let zeros : List ℕ = replicate (450 - 9 * k) 0 in
    let l : length front ≡ 9 * k = length_packed 9 (9 * k) (blocks_bits k cs) in
    let left : 450 - 9 * k - 9 ≡ 450 - 9 * (k + 1) = omega arith in
    ap (λ i. put_mid (9 * k) i word ys) m
    ∙ ap (λ w. put_mid (9 * k) 9 w ys) e
    ∙ ap (λ t. t ++ (ys ++ drop 9 (drop (9 * k) (front ++ zeros)))) (take_at front zeros (9 * k) l)
    ∙ ap (λ t. front ++ (ys ++ drop 9 t)) (drop_at front zeros (9 * k) l)
    ∙ ap (λ t. front ++ (ys ++ t)) (drop-replicate 9 (450 - 9 * k) 0 ∙ ap (λ i. replicate i 0) left)
    ∙ sym (append_assoc front ys (replicate (450 - 9 * (k + 1)) 0))
    ∙ ap (λ t. t ++ replicate (450 - 9 * (k + 1)) 0) (ap (λ t. front ++ t) f ∙ sym (symbols_more k cs))

whole : (cs : List ℕ) (symbol k : ℕ) (word : List ℕ) → k ≡ 45 → Written cs k word → set word 405 symbol ≡ packed 9 405 (blocks_bits 45 cs) ++ symbol ∷ replicate 44 0
whole cs symbol k word done e =
    ap (λ w. set w 405 symbol) (subst (λ n. Written cs n word) done e)
    ∙ set-append_right (packed 9 405 (blocks_bits 45 cs)) (replicate 45 0) 405 405 symbol (length_packed 9 405 (blocks_bits 45 cs)) (omega arith)

pub written_message : (cs : List ℕ) (symbol k : ℕ) (word : List ℕ) → k ≡ 45 → symbol < 512 → Written cs k word → take 406 (set word 405 symbol) ≡ message_of cs symbol
written_message cs symbol k word done h e =
    ap (take 406) (whole cs symbol k word done e)
    ∙ take_past (packed 9 405 (blocks_bits 45 cs)) (symbol ∷ replicate 44 0) 405 1 (length_packed 9 405 (blocks_bits 45 cs))
    ∙ sym (message_is cs symbol h)

-- every symbol of it is an element

small_more : (x : ℕ) (xs : List ℕ) → x < 512 → Small xs → Small (x ∷ xs)
small_more x xs h t zero = h
small_more x xs h t (suc i) = t i

pub written_word : (cs : List ℕ) (symbol k : ℕ) (word : List ℕ) → k ≡ 45 → symbol < 512 → Written cs k word → Word (set word 405 symbol)
written_word cs symbol k word done h e = record {
  full = ap length (whole cs symbol k word done e) ∙ length-append (packed 9 405 (blocks_bits 45 cs)) (symbol ∷ replicate 44 0) ∙ ap (λ n. n + 45) (length_packed 9 405 (blocks_bits 45 cs));
  small = rw (whole cs symbol k word done e) (append_small (packed 9 405 (blocks_bits 45 cs)) (symbol ∷ replicate 44 0) (packed_below 9 405 (blocks_bits 45 cs) (bits_blocks_bits 45 cs)) (small_more symbol (replicate 44 0) h (zeros_small 44)));
}
