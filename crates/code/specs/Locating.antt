-- The search for the damaged places. Assumes nothing.
use Rattle.std.specs.Prelude.{◌≡◌, ℕ, ◌+◌, ◌<◌, ◌≤◌, Bool, cond, List, [], ◌∷◌, ◌++◌, length, take, ◌==◌, slice_index}
use Rattle.arithmetic.specs.Laws.{Operations, power, elements}
use Rattle.code.specs.Words.{coefficient, reach}
use Rattle.code.specs.Polynomials.{dot_monic, reads, correction}
use Rattle.code.specs.declared.shapes.Monic.{Monic}
use Rattle.code.specs.declared.shapes.Recurrence.{Recurrence}

-- the coefficients of a monic polynomial below its leading 1, from the lowest
abbrev pub poly : Monic → List ℕ
poly p = take p.degree p.low

-- the polynomial found so far annuls the first `windows` windows of s; the one before it annuls one window less than the degree
-- of the one found, and not the next, whose value has the inverse `scale`
pub record Found (f : Operations) (s : List ℕ) (r : Recurrence) : Type 0 where
  pub high : r.windows ≤ reach
  pub earlier_low : r.previous.degree ≤ r.windows
  pub annuls : (j : ℕ) → j < r.windows → dot_monic f (poly r.current) (reads s) j ≡ 0
  pub earlier : (j : ℕ) → j + 1 < r.current.degree → dot_monic f (poly r.previous) (reads s) j ≡ 0
  pub fails : (j : ℕ) → j + 1 ≡ r.current.degree → f.times r.scale (dot_monic f (poly r.previous) (reads s) j) ≡ 1

-- the coefficients of a monic polynomial with its leading 1
abbrev pub whole : Monic → List ℕ
whole p = poly p ++ (1 ∷ [])

-- the terms of the polynomial with the coefficients cs at a point
abbrev pub Terms : Operations → List ℕ → ℕ → List ℕ → Type 0
Terms f cs x terms = (k : ℕ) → k < length cs → (slice_index terms k < elements) × (slice_index terms k ≡ f.times (slice_index cs k) (power f x k))

abbrev pub zero_at : List ℕ → ℕ → Bool
zero_at values i = slice_index values i == 0

-- the coefficient i of a word, corrected where the values are zero; p is the product over those places
abbrev pub restored : Operations → List ℕ → List ℕ → List ℕ → List ℕ → ℕ → ℕ
restored f values s p w i = cond (zero_at values i) (f.plus (coefficient w i) (correction f (reads s) p i)) (coefficient w i)
