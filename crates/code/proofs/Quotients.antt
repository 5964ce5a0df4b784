-- A monic polynomial has at most as many roots as its degree. Assumes nothing.
use Rattle.std.proofs.Common.{◌≡◌, ℕ, suc, ◌<◌, ◌≤◌, ◌≢◌, List, [], ◌∷◌, ◌++◌, length, sym, refl, ap, ◌∙◌, arith}
use Rattle.arithmetic.specs.Laws.{Operations, Lawful, elements}
use Rattle.std.specs.List.{AllByRecursion}
use Rattle.code.specs.Polynomials.{Apart, eval, eval_monic, quotient}
use Rattle.code.proofs.Basic.{plus_zero_right, times_zero_right, distrib_right, plus_left_comm, times_left_comm, plus_self_left, same_of_sum_zero, zero_of_times}
use Rattle.code.proofs.Moments.{all_both}

pub length_quotient : (F : Operations) (p : List ℕ) (r : ℕ) → length (quotient F p r) ≡ length p
length_quotient F [] r = refl
length_quotient F (b ∷ p) r = ap suc (length_quotient F p r)

module _ {F : Operations} (laws : Lawful F) where
  infixl 60 ◌⊕◌
  infixl 70 ◌⊗◌
  open F use {plus as ◌⊕◌, times as ◌⊗◌}
  open laws use {plus_below, times_below, plus_assoc, times_assoc, plus_comm, times_comm, distributes, plus_self}

  pub eval_monic_below : (p : List ℕ) (x : ℕ) → eval_monic F p x < elements
  eval_monic_below [] x = omega arith
  eval_monic_below (a ∷ p) x = plus_below a _

  pub eval_monic_value : (p : List ℕ) (x : ℕ) → eval F (p ++ (1 ∷ [])) x ≡ eval_monic F p x
  eval_monic_value [] x = rw (times_zero_right laws x) (plus_zero_right laws 1 (omega arith))
  eval_monic_value (a ∷ p) x = rw (eval_monic_value p x) refl

  -- with u = P(x) and v = P(r) for P(x) = b + x P'(x), and w the quotient of P'
  division_step : (b x r u v w : ℕ) → x ⊗ u ⊕ r ⊗ v ≡ (x ⊕ r) ⊗ w → x ⊗ (b ⊕ x ⊗ u) ⊕ r ⊗ (b ⊕ r ⊗ v) ≡ (x ⊕ r) ⊗ ((b ⊕ r ⊗ v) ⊕ x ⊗ w)
  division_step b x r u v w e =
      let back : (x ⊕ r) ⊗ (x ⊗ w) ≡ x ⊗ (x ⊗ u) ⊕ x ⊗ (r ⊗ v) = times_left_comm laws _ _ _ ∙ ap (λ z. x ⊗ z) (sym e) ∙ distributes x _ _ in
      sym (distributes (x ⊕ r) _ _ ∙ rw back (simp (distributes, distrib_right laws, times_assoc, times_comm, times_left_comm laws, plus_assoc, plus_self, plus_self_left laws, plus_comm, plus_left_comm laws, plus_below, times_below)))

  pub division : (p : List ℕ) (x r : ℕ) → x ⊗ eval_monic F p x ⊕ r ⊗ eval_monic F p r ≡ (x ⊕ r) ⊗ eval_monic F (quotient F p r) x
  division [] x r = sym (distrib_right laws x r 1)
  division (b ∷ p) x r = division_step b x r _ _ _ (division p x r)

  -- another root is a root of the quotient
  pub quotient_root : (a : ℕ) (p : List ℕ) (x r : ℕ) → x < elements → r < elements → x ≢ r
      → eval_monic F (a ∷ p) r ≡ 0 → eval_monic F (a ∷ p) x ≡ 0 → eval_monic F (quotient F p r) x ≡ 0
  quotient_root a p x r hx hr n er ex =
      let ax = same_of_sum_zero_any x ex in
      let ar = same_of_sum_zero_any r er in
      zero_of_times laws (x ⊕ r) _ (plus_below x r) (eval_monic_below (quotient F p r) x) (λ e. n (same_of_sum_zero laws x r hx hr e))
      (sym (division p x r) ∙ ap (λ z. z ⊕ r ⊗ eval_monic F p r) (ax) ∙ ap (λ z. (0 ⊕ a) ⊕ z) ar ∙ plus_self (0 ⊕ a))
    where
      same_of_sum_zero_any : (y : ℕ) → a ⊕ y ⊗ eval_monic F p y ≡ 0 → y ⊗ eval_monic F p y ≡ 0 ⊕ a
      same_of_sum_zero_any y e = sym (plus_self_left laws a _ (times_below _ _)) ∙ ap (λ z. a ⊕ z) e ∙ plus_comm a 0

  pub roots : {A : Type 0} (x : A → ℕ) → ((t : A) → x t < elements) → (ts : List A) (p : List ℕ) → Apart x ts → AllByRecursion (λ t. eval_monic F p (x t) ≡ 0) ts → length ts ≤ length p
  roots x xb [] p d z = omega arith
  roots x xb (t ∷ ts) [] d z = let k : ◌≡◌ {A = ℕ} 1 0 = z.0 in omega arith
  roots x xb (t ∷ ts) (a ∷ p) d z =
      let next : AllByRecursion (λ s. eval_monic F (quotient F p (x t)) (x s) ≡ 0) ts =
      all_both _ _ _ (λ s n e. quotient_root a p (x s) (x t) (xb s) (xb t) n z.0 e) ts d.0 z.1 in
      let k = roots x xb ts (quotient F p (x t)) d.1 next in
      omega (arith, length_quotient F p (x t))
