-- The nine symbols of a block, and the block of nine symbols.
use Rattle.std.proofs.Common.{◌≡◌, ℕ, suc, ◌+◌, ◌-◌, ◌*◌, ◌/◌, ◌%◌, ◌^◌, ◌<◌, ◌≤◌, List, [], ◌∷◌, ◌++◌, length, get_or, take, drop, set, sym, refl, ap, ◌∙◌, inl, inr, mod-eq_of_lt, mul_comm, arith}
use native.Mathlib.Nat.{mod-one}
use lib.Bits.{bit_and}
use Rattle.std.proofs.lemmas.Nat.{shr_below, one_shl, and_mask, shl_whole, mod_below, pow_pos, mul-add-lt, pow-add}
use Rattle.std.proofs.lemmas.List.{length-drop, get_or-drop, drop-drop, take_more, take_more_set, take_all}
use Rattle.std.proofs.lemmas.Bool.{cases_lt}
use Rattle.blocks.specs.Bits.{bits, number, packed, unpacked}
use Rattle.blocks.proofs.Packing.{length_packed, get_or_packed, within_one, across_two}
use Rattle.blocks.proofs.Invalid.{Octets}
use Rattle.codec.specs.Frames.{block_bits, block_from}

-- what a mask and a shift to the left make of a number
pub moved_up : (y j k : ℕ) → j < 16 → j + k ≤ 16 → (bit_and y ((1 * 2 ^ j) % 65536 - 1) * 2 ^ k) % 65536 ≡ 2 ^ k * (y % 2 ^ j)
moved_up y j k h l =
    ap (λ m. (bit_and y (m - 1) * 2 ^ k) % 65536) (one_shl j 16 h)
    ∙ ap (λ x. (x * 2 ^ k) % 65536) (and_mask y j)
    ∙ shl_whole (y % 2 ^ j) j k 16 (mod_below y (2 ^ j) (pow_pos j)) l
    ∙ mul_comm (y % 2 ^ j) (2 ^ k)

-- the end of one number and the start of another fit into as many bits as both have
pub both_below : (x y low high : ℕ) → x < 2 ^ low → x + 2 ^ low * (y % 2 ^ high) < 2 ^ (low + high)
both_below x y low high h = omega (arith, mul-add-lt (y % 2 ^ high) (2 ^ low) x (2 ^ high) (mod_below y (2 ^ high) (pow_pos high)) h, mul_comm (y % 2 ^ high) (2 ^ low), pow-add 2 low high)

-- the symbols of a block

pub low_bits : (block : List ℕ) (j : ℕ) → Octets block → 0 < j → j < 9 → get_or block (j + 1) 0 / 2 ^ (j - 1) < 2 ^ (9 - j)
low_bits block j o p q =
    let eight : 9 - j + (j - 1) ≡ 8 = omega arith in
    shr_below (get_or block (j + 1) 0) (9 - j) (j - 1) (rw eight (o (j + 1)))

pub first_symbol : (block : List ℕ) → length block ≡ 11 → Octets block → get_or (packed 9 9 (block_bits block)) 0 0 ≡ get_or block 0 0 + 2 * get_or block 1 0
unfolding number
first_symbol block h o =
    let l : length (drop 1 block) ≡ 10 = length-drop 1 block ∙ ap (λ n. n - 1) h in
    let e : number (take 8 (unpacked 8 (drop 1 block))) ≡ get_or block 1 0 = within_one 8 0 0 8 0 (drop 1 block) refl refl (omega arith) ∙ ap (λ x. x / 1 % 256) (get_or-drop 1 block 0 0) ∙ omega (arith, o 1) in
    get_or_packed 9 9 (block_bits block) 0 (omega arith) ∙ ap (λ x. get_or block 0 0 + 2 * x) e

pub later_symbol : (block : List ℕ) (j : ℕ) → length block ≡ 11 → Octets block → 0 < j → j < 9 → get_or (packed 9 9 (block_bits block)) j 0 ≡ get_or block (j + 1) 0 / 2 ^ (j - 1) + 2 ^ (9 - j) * (get_or block (j + 2) 0 % 2 ^ j)
later_symbol block j h o p q =
    let l : length (drop 1 block) ≡ 10 = length-drop 1 block ∙ ap (λ n. n - 1) h in
    let at : 9 * j ≡ suc (8 * j + (j - 1)) = omega arith in
    let k : 1 + j ≡ j + 1 = omega arith in
    let m : 1 + (j + 1) ≡ j + 2 = omega arith in
    let x_is : get_or (drop 1 block) j 0 ≡ get_or block (j + 1) 0 = get_or-drop 1 block j 0 ∙ ap (λ i. get_or block i 0) k in
    let y_is : get_or (drop 1 block) (j + 1) 0 ≡ get_or block (j + 2) 0 = get_or-drop 1 block (j + 1) 0 ∙ ap (λ i. get_or block i 0) m in
    get_or_packed 9 9 (block_bits block) j q
    ∙ ap (λ i. number (take 9 (drop i (block_bits block)))) at
    ∙ across_two 8 j (j - 1) (9 - j) j 9 (8 * j + (j - 1)) (drop 1 block) (omega arith) (omega arith) (omega arith) refl (omega arith)
    ∙ ap (λ x. x / 2 ^ (j - 1) % 2 ^ (9 - j) + 2 ^ (9 - j) * (get_or (drop 1 block) (j + 1) 0 % 2 ^ j)) x_is
    ∙ ap (λ y. get_or block (j + 1) 0 / 2 ^ (j - 1) % 2 ^ (9 - j) + 2 ^ (9 - j) * (y % 2 ^ j)) y_is
    ∙ ap (λ x. x + 2 ^ (9 - j) * (get_or block (j + 2) 0 % 2 ^ j)) (mod-eq_of_lt (low_bits block j o p q))

-- a symbol has nine bits
pub symbol_small : (block : List ℕ) (j : ℕ) → Octets block → 0 < j → j < 9 → get_or block (j + 1) 0 / 2 ^ (j - 1) + 2 ^ (9 - j) * (get_or block (j + 2) 0 % 2 ^ j) < 512
symbol_small block j o p q =
    let nine : 9 - j + j ≡ 9 = omega arith in
    rw nine at (both_below (get_or block (j + 1) 0 / 2 ^ (j - 1)) (get_or block (j + 2) 0) (9 - j) j (low_bits block j o p q))

-- the octets of nine symbols

abbrev pub Small : List ℕ → Type 0
Small symbols = (k : ℕ) → get_or symbols k 0 < 512

payload : (bs : List ℕ) (i : ℕ) → i < 10 → get_or (block_from bs) (1 + i) 0 ≡ number (take 8 (drop (1 + 8 * i) bs))
payload bs i h =
    let e : 1 + i ≡ suc i = omega arith in
    ap (λ k. get_or (block_from bs) k 0) e ∙ get_or_packed 8 10 (drop 1 bs) i h ∙ ap (λ l. number (take 8 l)) (drop-drop (8 * i) 1 bs)

-- the first octet is the rest of the first symbol, and the last octet that of the last symbol
pub end_octet : (symbols : List ℕ) (i k : ℕ) → length symbols ≡ 9 → Small symbols → i < 10 → k < 9 → 8 * i ≡ 9 * k → get_or (block_from (unpacked 9 symbols)) (1 + i) 0 ≡ get_or symbols k 0 / 2
end_octet symbols i k h s p q e =
    payload (unpacked 9 symbols) i p
    ∙ within_one 9 k 1 8 (1 + 8 * i) symbols (omega arith) (omega arith) (omega arith)
    ∙ mod-eq_of_lt (omega (arith, s k))

pub high_bits : (symbols : List ℕ) (i : ℕ) → Small symbols → 0 < i → i < 10 → get_or symbols (i - 1) 0 / 2 ^ (10 - i) < 2 ^ (i - 1)
high_bits symbols i s p q =
    let nine : i - 1 + (10 - i) ≡ 9 = omega arith in
    shr_below (get_or symbols (i - 1) 0) (i - 1) (10 - i) (rw nine (s (i - 1)))

pub middle_octet : (symbols : List ℕ) (i : ℕ) → length symbols ≡ 9 → Small symbols → 0 < i → i < 9 → get_or (block_from (unpacked 9 symbols)) (1 + i) 0 ≡ get_or symbols (i - 1) 0 / 2 ^ (10 - i) + 2 ^ (i - 1) * (get_or symbols i 0 % 2 ^ (9 - i))
middle_octet symbols i h s p q =
    let e : i - 1 + 1 ≡ i = omega arith in
    payload (unpacked 9 symbols) i (omega arith)
    ∙ across_two 9 (i - 1) (10 - i) (i - 1) (9 - i) 8 (1 + 8 * i) symbols (omega arith) (omega arith) (omega arith) (omega arith) (omega arith)
    ∙ ap (λ k. get_or symbols (i - 1) 0 / 2 ^ (10 - i) % 2 ^ (i - 1) + 2 ^ (i - 1) * (get_or symbols k 0 % 2 ^ (9 - i))) e
    ∙ ap (λ x. x + 2 ^ (i - 1) * (get_or symbols i 0 % 2 ^ (9 - i))) (mod-eq_of_lt (high_bits symbols i s p (omega arith)))

-- what the next symbol adds to an octet: nothing to the last, which has no next symbol
abbrev pub High : List ℕ → ℕ → ℕ → Type 0
High symbols i high = high ≡ 2 ^ (i - 1) * (get_or symbols i 0 % 2 ^ (9 - i))

pub later_octet : (symbols : List ℕ) (i high : ℕ) → length symbols ≡ 9 → Small symbols → 0 < i → i < 10 → High symbols i high → get_or symbols (i - 1) 0 / 2 ^ (10 - i) + high ≡ get_or (block_from (unpacked 9 symbols)) (1 + i) 0
later_octet symbols i high h s p q e = elim (cases_lt i 9) [
  | inl l ↦ ap (λ x. get_or symbols (i - 1) 0 / 2 ^ (10 - i) + x) e ∙ sym (middle_octet symbols i h s p l)
  | inr l ↦ last (omega arith)
]
  where
    last : i ≡ 9 → get_or symbols (i - 1) 0 / 2 ^ (10 - i) + high ≡ get_or (block_from (unpacked 9 symbols)) (1 + i) 0
    last n =
        let z : high ≡ 0 = e ∙ ap (λ k. 2 ^ (k - 1) * (get_or symbols k 0 % 2 ^ (9 - k))) n ∙ omega (arith, mod-one (get_or symbols 9 0)) in
        ap (λ k. get_or symbols (k - 1) 0 / 2 ^ (10 - k) + high) n ∙ ap (λ x. get_or symbols 8 0 / 2 + x) z ∙ omega (arith, end_octet symbols i 8 h s q (omega arith) (omega arith))

-- writing a list from its front

pub wrote_more : (xs ys : List ℕ) (j v : ℕ) → j < length xs → j < length ys → take j xs ≡ take j ys → v ≡ get_or ys j 0 → take (j + 1) (set xs j v) ≡ take (j + 1) ys
wrote_more xs ys j v h l e f = take_more_set xs j v h ∙ ap (λ t. t ++ v ∷ []) e ∙ ap (λ x. take j ys ++ x ∷ []) f ∙ sym (take_more ys j 0 l)

pub wrote_all : (xs ys : List ℕ) (n j : ℕ) → length xs ≡ n → length ys ≡ n → n ≤ j → take j xs ≡ take j ys → xs ≡ ys
wrote_all xs ys n j h l p e = sym (take_all j xs (omega arith)) ∙ e ∙ take_all j ys (omega arith)

pub nine_symbols : (block : List ℕ) → length (packed 9 9 (block_bits block)) ≡ 9
nine_symbols block = length_packed 9 9 (block_bits block)

pub eleven_octets : (bs : List ℕ) → length (block_from bs) ≡ 11
eleven_octets bs = ap suc (length_packed 8 10 (drop 1 bs))

-- the header bit is that of weight 1
pub header_bit : (symbols : List ℕ) → length symbols ≡ 9 → get_or symbols 0 0 % 2 ≡ get_or (block_from (unpacked 9 symbols)) 0 0
unfolding unpacked bits
header_bit [] h = absurd (omega arith)
header_bit (x ∷ xs) h = refl
