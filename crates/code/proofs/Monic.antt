-- A monic polynomial with a multiple of another added, against a row of numbers. Assumes nothing.
use Rattle.std.proofs.Common.{◌≡◌, ℕ, suc, ◌+◌, ◌<◌, ◌≤◌, List, [], ◌∷◌, ◌++◌, length, get_or, drop, fold, sym, ap, ◌∙◌, add-zero, add-one, arith}
use Rattle.std.specs.List.{zip}
use Rattle.std.proofs.lemmas.List.{drop_more}
use Rattle.arithmetic.specs.Laws.{Operations, Lawful, elements}
use Rattle.code.specs.Polynomials.{dot, dot_monic, plus_monic}
use Rattle.code.proofs.Basic.{plus_zero_right, times_one_left, distrib_right, plus_left_comm}

module _ {F : Operations} (laws : Lawful F) where
  infixl 60 ◌⊕◌
  infixl 70 ◌⊗◌
  open F use {plus as ◌⊕◌, times as ◌⊗◌}
  open laws use {plus_below, times_below, plus_assoc, times_assoc, plus_comm, times_comm, distributes, plus_self}

  pub dot_monic_below : (p : List ℕ) (s : ℕ → ℕ) → ((j : ℕ) → s j < elements) → (j : ℕ) → dot_monic F p s j < elements
  dot_monic_below [] s h j = h j
  dot_monic_below (a ∷ p) s h j = plus_below _ _

  pub dot_monic_value : (p : List ℕ) (s : ℕ → ℕ) → ((j : ℕ) → s j < elements) → (j : ℕ) → dot F (p ++ (1 ∷ [])) s j ≡ dot_monic F p s j
  dot_monic_value [] s h j = plus_zero_right laws _ (times_below _ _) ∙ times_one_left laws _ (h j)
  dot_monic_value (a ∷ p) s h j = ap (λ z. a ⊗ s j ⊕ z) (dot_monic_value p s h (suc j))

  last_step : (b k w d : ℕ) → (b ⊕ k) ⊗ w ⊕ d ≡ b ⊗ w ⊕ d ⊕ k ⊗ w
  last_step b k w d = simp (distrib_right laws, plus_assoc, plus_comm, plus_left_comm laws)

  more_step : (a b k w d e : ℕ) → (b ⊕ k ⊗ a) ⊗ w ⊕ (d ⊕ k ⊗ e) ≡ b ⊗ w ⊕ d ⊕ k ⊗ (a ⊗ w ⊕ e)
  more_step a b k w d e = simp (distributes, distrib_right laws, times_assoc, plus_assoc, plus_comm, plus_left_comm laws)

  pub linear : (k : ℕ) (p q : List ℕ) (s : ℕ → ℕ) (j : ℕ) → length p < length q
      → dot_monic F (plus_monic F k p q) s j ≡ dot_monic F q s j ⊕ k ⊗ dot_monic F p s j
  linear k p [] s j h = absurd (omega arith)
  linear k [] (b ∷ q) s j h = last_step b k (s j) _
  linear k (a ∷ p) (b ∷ q) s j h = rw (linear k p q s (suc j) (omega arith)) (more_step a b k (s j) _ _)

  -- the terms of a window added up one after the other, from its last number on
  fold_from : (p : List ℕ) (s : List ℕ) (j acc : ℕ) → j + length p ≤ length s → acc < elements
      → fold (λ sum t. sum ⊕ t.0 ⊗ t.1) acc (zip p (drop j s)) ≡ acc ⊕ dot F p (λ k. get_or s k 0) j
  fold_from [] s j acc h b = sym (plus_zero_right laws acc b)
  fold_from (a ∷ p) s j acc h b =
      ap (λ q. fold (λ sum t. sum ⊕ t.0 ⊗ t.1) acc (zip (a ∷ p) q)) (drop_more s j 0 (omega arith))
      ∙ ap (λ n. fold (λ sum t. sum ⊕ t.0 ⊗ t.1) (acc ⊕ a ⊗ get_or s j 0) (zip p (drop n s))) (add-one j)
      ∙ fold_from p s (suc j) (acc ⊕ a ⊗ get_or s j 0) (omega arith) (plus_below _ _)
      ∙ plus_assoc acc (a ⊗ get_or s j 0) _

  last_first : (p : List ℕ) (s : ℕ → ℕ) → ((j : ℕ) → s j < elements) → (j : ℕ) → s (j + length p) ⊕ dot F p s j ≡ dot_monic F p s j
  last_first [] s h j = ap (λ n. s n ⊕ 0) (add-zero j) ∙ plus_zero_right laws (s j) (h j)
  last_first (a ∷ p) s h j =
      let n : j + suc (length p) ≡ suc j + length p = omega arith in
      ap (λ m. s m ⊕ (a ⊗ s j ⊕ dot F p s (suc j))) n ∙ plus_left_comm laws _ _ _ ∙ ap (λ z. a ⊗ s j ⊕ z) (last_first p s h (suc j))

  pub window_fold : (p s : List ℕ) (j : ℕ) → j + length p < length s → ((k : ℕ) → get_or s k 0 < elements)
      → fold (λ sum t. sum ⊕ t.0 ⊗ t.1) (get_or s (j + length p) 0) (zip p (drop j s)) ≡ dot_monic F p (λ k. get_or s k 0) j
  window_fold p s j h b = fold_from p s j _ (omega arith) (b _) ∙ last_first p (λ k. get_or s k 0) b j
