-- Words, their distance, and the code. A word is written with its highest coefficient first. Assumes nothing.
use Rattle.std.specs.Prelude.{◌≡◌, ℕ, zero, suc, ◌+◌, ◌-◌, ◌*◌, ◌<◌, cond, List, [], ◌∷◌, length, ◌==◌, slice_index}
use Rattle.arithmetic.specs.Laws.{Operations, power, elements}

-- the symbols of a word: c449 first, c0 last
abbrev pub word_length : ℕ
word_length = 450

-- how many sums vanish in a codeword, and how many symbols completing a word writes
abbrev pub parity : ℕ
parity = 44

-- the symbols that completing a word leaves
abbrev pub message_length : ℕ
message_length = 406

-- how many symbols repairing a word may change
abbrev pub reach : ℕ
reach = 22

-- the coefficient c_i of a word: the last symbol is c_0
abbrev pub coefficient : List ℕ → ℕ → ℕ
coefficient w i = slice_index w (length w - suc i)

-- the numbers below n, from the highest
abbrev pub below : ℕ → List ℕ
below zero = []
below (suc n) = n ∷ below n

-- the sum of c over a list
abbrev pub sum : Operations → {A : Type 0} → (A → ℕ) → List A → ℕ
sum f c [] = 0
sum f c (t ∷ ts) = f.plus (c t) (sum f c ts)

-- the sum number j of a word: over all its places i, c_i × α^(j × i)
abbrev pub syndrome : Operations → List ℕ → ℕ → ℕ
syndrome f w j = sum f (λ i. f.times (coefficient w i) (power f f.alpha (j * i))) (below (length w))

-- in how many places two words differ; a place that one of them lacks counts
unfoldable pub distance : List ℕ → List ℕ → ℕ
distance [] v = length v
distance (a ∷ u) [] = suc (length u)
distance (a ∷ u) (b ∷ v) = cond (a == b) 0 1 + distance u v

-- as many symbols as a word has, each an element
pub record Word (w : List ℕ) : Type 0 where
  pub full : length w ≡ word_length
  pub small : (i : ℕ) → slice_index w i < elements

-- a word whose sums 0 to 43 vanish
pub record Codeword (f : Operations) (w : List ℕ) : Type 0 where
  pub word : Word w
  pub checks : (j : ℕ) → j < parity → syndrome f w j ≡ 0
