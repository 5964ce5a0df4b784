-- Polynomials over a field, and moments of terms. Assumes nothing.
use Rattle.std.specs.Prelude.{ℕ, suc, Bool, ◌≢◌, List, [], ◌∷◌, ◌++◌, length, drop, ◌==◌, slice_index}
use Rattle.std.specs.List.{AllByRecursion}
use Rattle.arithmetic.specs.Laws.{Operations, power}
use Rattle.code.specs.Words.{sum}

-- a list's number k, 0 past its end
abbrev pub reads : List ℕ → ℕ → ℕ
reads s k = slice_index s k

module _ (f : Operations) where
  -- a polynomial's value, its coefficients from the highest
  abbrev pub value : ℕ → List ℕ → ℕ
  value x [] = 0
  value x (a ∷ w) = f.plus (f.times a (power f x (length w))) (value x w)

  -- a polynomial's value, its coefficients from the lowest
  abbrev pub eval : List ℕ → ℕ → ℕ
  eval [] x = 0
  eval (a ∷ p) x = f.plus a (f.times x (eval p x))

  -- the value of the polynomial with these coefficients, from the lowest, and a leading 1 above them
  abbrev pub eval_monic : List ℕ → ℕ → ℕ
  eval_monic [] x = 1
  eval_monic (a ∷ p) x = f.plus a (f.times x (eval_monic p x))

  -- p₀ s(j) + p₁ s(j + 1) + ..
  abbrev pub dot : List ℕ → (ℕ → ℕ) → ℕ → ℕ
  dot [] s j = 0
  dot (a ∷ p) s j = f.plus (f.times a (s j)) (dot p s (suc j))

  -- the same with a leading 1 above the coefficients of p
  abbrev pub dot_monic : List ℕ → (ℕ → ℕ) → ℕ → ℕ
  dot_monic [] s j = s j
  dot_monic (a ∷ p) s j = f.plus (f.times a (s j)) (dot_monic p s (suc j))

  -- q + k p, for monic polynomials, p of the lower degree
  abbrev pub plus_monic : ℕ → List ℕ → List ℕ → List ℕ
  plus_monic k p [] = []
  plus_monic k [] (b ∷ q) = f.plus b k ∷ q
  plus_monic k (a ∷ p) (b ∷ q) = f.plus b (f.times k a) ∷ plus_monic k p q

  -- c + (x + y) P(x), for the monic polynomial P with the coefficients p
  abbrev pub times_linear : ℕ → ℕ → List ℕ → List ℕ
  times_linear y c [] = f.plus c y ∷ []
  times_linear y c (a ∷ p) = f.plus c (f.times y a) ∷ times_linear y a p

  -- the quotient of the monic polynomial a ∷ p by x + r, for any a
  abbrev pub quotient : List ℕ → ℕ → List ℕ
  quotient [] r = []
  quotient (b ∷ p) r = eval_monic (b ∷ p) r ∷ quotient p r

  -- the sums of two rows of numbers, place by place
  abbrev pub added : List ℕ → List ℕ → List ℕ
  added [] q = []
  added (a ∷ p) [] = []
  added (a ∷ p) (b ∷ q) = f.plus a b ∷ added p q

  -- the sum of a row of numbers
  abbrev pub total : List ℕ → ℕ
  total [] = 0
  total (a ∷ p) = f.plus a (total p)

  -- the register moved up by one place, with a row added
  abbrev pub advanced : List ℕ → List ℕ → List ℕ
  advanced register row = added (drop 1 register ++ (0 ∷ [])) row

  -- the sum over the terms t of c(t) x(t)^j
  abbrev pub moment : {A : Type 0} → (A → ℕ) → (A → ℕ) → List A → ℕ → ℕ
  moment c x ts j = sum f (λ t. f.times (c t) (power f (x t) j)) ts

  -- whether the power i of α is a root of the monic polynomial with the coefficients p
  abbrev pub is_root : List ℕ → ℕ → Bool
  is_root p i = eval_monic p (power f f.alpha i) == 0

  -- what is to be added at the place i, where p is the product over all suspected places
  abbrev pub correction : (ℕ → ℕ) → List ℕ → ℕ → ℕ
  correction s p i = let x = power f f.alpha i in let q = quotient (drop 1 p) x in f.times (dot_monic q s 0) (f.inverse (eval_monic q x))

-- the points of the terms are pairwise different
abbrev pub Apart : {A : Type 0} → (A → ℕ) → List A → Type 0
Apart x [] = Unit {0}
Apart x (t ∷ ts) = AllByRecursion (λ s. x s ≢ x t) ts × Apart x ts
