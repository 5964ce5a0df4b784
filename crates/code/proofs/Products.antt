-- Monic polynomials as products of x + y. Assumes nothing.
use Rattle.std.proofs.Common.{◌≡◌, ℕ, ◌+◌, ◌-◌, ◌<◌, List, [], ◌∷◌, ◌++◌, length, get_or, take, drop, set, sym, ap, ◌∙◌, subst, arith, below_more}
use Rattle.std.proofs.Math.Seq.{drop-length, take-length, take-append_seam, set-append_seam}
use Rattle.std.proofs.lemmas.List.{drop_more, length-take-le, take-take}
use Rattle.arithmetic.specs.Laws.{Operations, Lawful, power}
use Rattle.std.specs.List.{AllByRecursion}
use Rattle.std.proofs.ByRecursion.{All-weaker}
use Rattle.code.specs.Polynomials.{eval_monic, times_linear}
use Rattle.code.specs.Prepared.{Vanishes}
use Rattle.code.proofs.Basic.{times_one_right, times_zero_right, times_zero_left, distrib_right, plus_left_comm, times_left_comm}
use Rattle.code.proofs.Unique.{reduced}

-- a list and a value in the place of what follows it
last_set : (xs p : List ℕ) (n v : ℕ) → length xs ≡ n → n + 1 ≡ length p → set (xs ++ drop n p) n v ≡ xs ++ (v ∷ [])
last_set xs p n v l e =
    let inside : n < length p = omega arith in
    ap (λ r. set (xs ++ r) n v) (drop_more p n 0 inside ∙ ap (λ r. get_or p n 0 ∷ r) (ap (λ m. drop m p) e ∙ drop-length p))
    ∙ ap (λ m. set (xs ++ (get_or p n 0 ∷ [])) m v) (sym l)
    ∙ set-append_seam xs (get_or p n 0) [] v

-- a monic polynomial with as many roots as its degree: the powers of α at the places
pub record RootsAt (F : Operations) (degree : ℕ) (low places : List ℕ) : Type 0 where
  pub count : degree ≡ length places
  pub zeros : AllByRecursion (λ k. eval_monic F (take degree low) (power F F.alpha k) ≡ 0) places

module _ (F : Operations) where
  -- the last turn of the product with x + y
  pub product_end : (y c : ℕ) (xs p : List ℕ) (n v : ℕ) → length xs ≡ n → n + 1 ≡ length p → v ≡ F.plus c y
      → set (xs ++ drop n p) n v ≡ take n xs ++ times_linear F y c (drop n xs)
  product_end y c xs p n v l e ev =
      last_set xs p n v l e ∙ ap (λ z. xs ++ (z ∷ [])) ev
      ∙ sym (ap (λ m. take m xs ++ times_linear F y c (drop m xs)) (sym l) ∙ ap (λ r. r ++ times_linear F y c (drop (length xs) xs)) (take-length xs) ∙ ap (λ r. xs ++ times_linear F y c r) (drop-length xs))

  -- the first j coefficients of p, and the product with x + y in the first j + 1 places
  pub next_product : (y : ℕ) (p q : List ℕ) (j : ℕ) → j < length p → length q ≡ length (take (j + 1) p)
      → q ≡ times_linear F y 0 (take (length (take (j + 1) p) - 1) (take (j + 1) p)) → take (j + 1) (q ++ drop (j + 1) p) ≡ times_linear F y 0 (take j p)
  next_product y p q j h l e =
      let long : length (take (j + 1) p) ≡ j + 1 = length-take-le (j + 1) p (omega arith) in
      let less : length (take (j + 1) p) - 1 ≡ j = omega arith in
      let seam : j + 1 ≡ length q = omega arith in
      ap (λ m. take m (q ++ drop (j + 1) p)) seam ∙ take-append_seam q (drop (j + 1) p) ∙ e
      ∙ ap (λ m. times_linear F y 0 (take m (take (j + 1) p))) less ∙ ap (times_linear F y 0) (take-take j (j + 1) p (omega arith))

module _ {F : Operations} (laws : Lawful F) where
  infixl 60 ◌⊕◌
  infixl 70 ◌⊗◌
  open F use {plus as ◌⊕◌, times as ◌⊗◌}
  open laws use {plus_below, plus_assoc, times_assoc, plus_comm, times_comm, distributes, plus_self}

  times_step : (c y a x v : ℕ) → c ⊕ y ⊗ a ⊕ x ⊗ (a ⊕ (x ⊕ y) ⊗ v) ≡ c ⊕ (x ⊕ y) ⊗ (a ⊕ x ⊗ v)
  times_step c y a x v = simp (distributes, distrib_right laws, times_assoc, times_comm, times_left_comm laws, plus_assoc, plus_comm, plus_left_comm laws)

  pub eval_times : (y c : ℕ) (p : List ℕ) (x : ℕ) → eval_monic F (times_linear F y c p) x ≡ c ⊕ (x ⊕ y) ⊗ eval_monic F p x
  eval_times y c [] x = plus_comm _ _ ∙ reduced laws x _ ∙ plus_left_comm laws x c y ∙ ap (λ z. c ⊕ z) (sym (times_one_right laws (x ⊕ y) (plus_below x y)))
  eval_times y c (a ∷ p) x = ap (λ z. c ⊕ y ⊗ a ⊕ x ⊗ z) (eval_times y a p x) ∙ times_step c y a x _

  -- one more root, and those that there were
  new_root : (y : ℕ) (p : List ℕ) → eval_monic F (times_linear F y 0 p) y ≡ 0
  new_root y p = eval_times y 0 p y ∙ ap (λ z. 0 ⊕ z ⊗ eval_monic F p y) (plus_self y) ∙ ap (λ z. 0 ⊕ z) (times_zero_left laws _) ∙ plus_self 0

  old_root : (y x : ℕ) (p : List ℕ) → eval_monic F p x ≡ 0 → eval_monic F (times_linear F y 0 p) x ≡ 0
  old_root y x p e = eval_times y 0 p x ∙ ap (λ z. 0 ⊕ (x ⊕ y) ⊗ z) e ∙ ap (λ z. 0 ⊕ z) (times_zero_right laws _) ∙ plus_self 0

  pub vanishes_more : (x : ℕ → ℕ) (p q : List ℕ) (j : ℕ) → take (j + 1) q ≡ times_linear F (x j) 0 (take j p) → Vanishes F x j (take j p) → Vanishes F x (j + 1) (take (j + 1) q)
  vanishes_more x p q j e z = below_more _ _
      (λ i h. ap (λ r. eval_monic F r (x i)) e ∙ old_root (x j) (x i) (take j p) (z i h))
      (ap (λ r. eval_monic F r (x j)) e ∙ new_root (x j) (take j p))

  -- times x + α^k: k is one more of the places
  pub roots_more : {d : ℕ} {low ks : List ℕ} (k : ℕ) (new : List ℕ) → take (d + 1) new ≡ times_linear F (power F F.alpha k) 0 (take d low) → RootsAt F d low ks → RootsAt F (d + 1) new (k ∷ ks)
  roots_more {d} {low} {ks} k new e r =
      let x = power F F.alpha in
      let Zero : List ℕ → Type 0 = λ p. AllByRecursion (λ i. eval_monic F p (x i) ≡ 0) (k ∷ ks) in
      record {
        count = omega (arith, r.count);
        zeros = subst Zero (sym e) (new_root (x k) (take d low), All-weaker _ _ (λ i z. old_root (x k) (x i) (take d low) z) ks r.zeros);
      }
