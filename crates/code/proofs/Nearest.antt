-- The word with the corrections is the codeword that is near. Assumes nothing.
use Rattle.std.proofs.Common.{◌≡◌, ℕ, ◌+◌, ◌<◌, ◌≤◌, cond, eqb, List, length, get_or, filter, sym, ap, ◌∙◌, subst, arith}
use Rattle.std.specs.List.{AllByRecursion}
use Rattle.arithmetic.specs.Laws.{Operations, Lawful, power, elements, longest}
use Rattle.code.specs.Words.{below, coefficient, distance, syndrome}
use Rattle.code.specs.Polynomials.{eval_monic, dot_monic, reads, is_root, correction}
use Rattle.code.specs.Locating.{zero_at, restored}
use Rattle.code.proofs.Distances.{kept_same}
use Rattle.code.proofs.Unique.{coefficients_same}
use Rattle.code.proofs.Decoded.{decoded, suspects, root_count}

module _ {F : Operations} (laws : Lawful F) (p values : List ℕ) (n : ℕ) (short : n ≤ longest) (lv : length values ≡ n)
    (at : (i : ℕ) → i < n → get_or values i 0 ≡ eval_monic F p (power F F.alpha i)) where
  zero_root : (i : ℕ) → i < n → zero_at values i ≡ is_root F p i
  zero_root i h = ap (λ z. eqb z 0) (at i h)

  -- the places at which the values are zero are those of the roots
  pub zeros_roots : filter (zero_at values) (below (length values)) ≡ suspects laws p n
  zeros_roots = kept_same (zero_at values) (is_root F p) (length values) (λ i h. zero_root i (omega arith)) ∙ ap (λ m. suspects laws p m) lv

  pub few_zeros : length (filter (zero_at values) (below (length values))) ≤ length p
  few_zeros = omega (arith, ap length zeros_roots, root_count laws p n short)

  -- the word with the corrections is any word of the code that is near
  pub nearest : (w w' s q : List ℕ) (t : ℕ) → length w ≡ n → length w' ≡ n → ((i : ℕ) → coefficient w i < elements)
      → ((j : ℕ) → reads s j < elements) → ((j : ℕ) → j < t + t → reads s j ≡ syndrome F w j)
      → length p ≤ t → ((j : ℕ) → j < t → dot_monic F p (reads s) j ≡ 0)
      → length q ≡ length (suspects laws p n) → AllByRecursion (λ k. eval_monic F q (power F F.alpha k) ≡ 0) (suspects laws p n)
      → ((i : ℕ) → i < n → coefficient w' i ≡ restored F values s q w i)
      → (v : List ℕ) → length v ≡ n → ((i : ℕ) → coefficient v i < elements) → ((j : ℕ) → j < t + t → syndrome F v j ≡ 0) → distance w v ≤ t → v ≡ w'
  nearest w w' s q t lw lw' wb sb sw few annuls long zeros right v lenv vb sv near =
      coefficients_same v w' (lenv ∙ sym lw') (λ i h.
      let b : i < n = omega arith in
      let P : ℕ → Type 0 = λ m. AllByRecursion (λ k. eval_monic F q (power F F.alpha k) ≡ 0) (suspects laws p m) in
      sym (right i b
      ∙ ap (λ z. cond z (F.plus (coefficient w i) (correction F (reads s) q i)) (coefficient w i)) (zero_root i b)
      ∙ decoded laws w v (lw ∙ sym lenv) (omega arith) wb vb t near sv (reads s) sb sw p q few annuls (long ∙ ap (λ m. length (suspects laws p m)) (sym lw)) (subst P (sym lw) zeros) i (omega arith)))
