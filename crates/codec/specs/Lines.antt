-- Line frames: what a codeword looks like on the line, and how far apart two lines are. Assumes nothing.
use Rattle.std.specs.Prelude.{ℕ, zero, suc, ◌+◌, ◌-◌, ◌*◌, ◌≤◌, Bool, true, false, cond, ◌&&◌, List, [], ◌∷◌, ◌++◌, length, take, drop, replicate, ℤ, bit_xor, int_le}
use Rattle.blocks.specs.Bits.{bits, packed}
use Rattle.code.specs.Words.{Codeword}
use Rattle.codec.specs.Ends.{End}

-- each word becomes its pair of line symbols
unfoldable pub pairs : (ℕ → ℤ × ℤ) → List ℕ → List ℤ
pairs pair [] = []
pairs pair (w ∷ ws) = (pair w).0 ∷ (pair w).1 ∷ pairs pair ws

-- the group of a scrambled symbol: its nine bits in threes, each three a word with its first bit at weight 1, as pairs
unfoldable pub line_group : (ℕ → ℤ × ℤ) → ℕ → List ℤ
line_group pair c = pairs pair (packed 3 3 (bits 9 c))

-- the groups of symbols, each exclusive-or its mask, the first with mask number k
unfoldable pub line_from : (ℕ → ℤ × ℤ) → (ℕ → ℕ) → ℕ → List ℕ → List ℤ
line_from pair mask k [] = []
line_from pair mask k (c ∷ word) = line_group pair (bit_xor c (mask k)) ++ line_from pair mask (k + 1) word

-- the line frame of a word in a period
unfoldable pub line_frame : End → ℕ → List ℕ → List ℤ
line_frame end period word = line_from end.pair end.mask (450 * period) word

abbrev pub same : List ℤ → List ℤ → Bool
same [] [] = true
same [] (y ∷ ys) = false
same (x ∷ xs) [] = false
same (x ∷ xs) (y ∷ ys) = int_le x y && int_le y x && same xs ys

-- group k of a line: six line symbols
abbrev pub group : List ℤ → ℕ → List ℤ
group line k = take 6 (drop (6 * k) line)

-- of n groups, the first of which has number k, those in which two lines are unequal, ascending
unfoldable pub unequal : ℕ → ℕ → List ℤ → List ℤ → List ℕ
unequal k zero a b = []
unequal k (suc n) a b = cond (same (take 6 a) (take 6 b)) [] (k ∷ []) ++ unequal (k + 1) n (drop 6 a) (drop 6 b)

-- the groups of two lines that differ
unfoldable pub differing : List ℤ → List ℤ → List ℕ
differing a b = unequal 0 450 a b

-- how many groups two lines are apart
abbrev pub apart : List ℤ → List ℤ → ℕ
apart a b = length (differing a b)

-- places padded with 450 to 22
unfoldable pub padded : List ℕ → List ℕ
padded places = places ++ replicate (22 - length places) 450

-- a codeword whose line frame of the period is within 22 groups of the line
pub record Near (end : End) (period : ℕ) (line : List ℤ) (word : List ℕ) : Type 0 where
  pub codeword : Codeword end.field word
  pub within : apart line (line_frame end period word) ≤ 22

abbrev pub NoneNear : End → ℕ → List ℤ → Type 0
NoneNear end period line = (word : List ℕ) → Near end period line word → ⊥
