-- Sums over lists, the exchange of a polynomial with the moments of terms, and terms at different points. Assumes nothing.
use Rattle.std.proofs.Common.{◌≡◌, ℕ, suc, ◌<◌, List, [], ◌∷◌, length, sym, refl, ap, ◌∙◌, arith}
use mathlib.Core.Path.{fun_ext}
use Rattle.arithmetic.specs.Laws.{Operations, Lawful, power, elements}
use Rattle.std.specs.List.{AllByRecursion}
use Rattle.std.proofs.ByRecursion.{All-weaker}
use Rattle.code.specs.Words.{sum}
use Rattle.code.specs.Polynomials.{Apart, dot, eval, moment}
use Rattle.code.proofs.Basic.{plus_zero_left, plus_zero_right, times_one_right, times_zero_left, times_zero_right, distrib_right, plus_left_comm, times_left_comm, same_of_sum_zero, zero_of_times}

pub all_both : {A : Type 0} (P Q R : A → Type 0) → ((t : A) → P t → Q t → R t) → (ts : List A) → AllByRecursion P ts → AllByRecursion Q ts → AllByRecursion R ts
all_both P Q R f [] p q = tt
all_both P Q R f (t ∷ ts) p q = (f t p.0 q.0, all_both P Q R f ts p.1 q.1)

module _ {F : Operations} (laws : Lawful F) where
  infixl 60 ◌⊕◌
  infixl 70 ◌⊗◌
  open F use {plus as ◌⊕◌, times as ◌⊗◌}
  open laws use {plus_below, times_below, plus_assoc, times_assoc, plus_comm, times_comm, distributes, plus_self}

  pub sum_below : {A : Type 0} (f : A → ℕ) (ts : List A) → sum F f ts < elements
  sum_below f [] = omega arith
  sum_below f (t ∷ ts) = plus_below (f t) _

  pub sum_same : {A : Type 0} (f g : A → ℕ) (ts : List A) → ((t : A) → f t ≡ g t) → sum F f ts ≡ sum F g ts
  sum_same f g ts e = ap (λ h. sum F h ts) (fun_ext e)

  pub sum_plus : {A : Type 0} (f g : A → ℕ) (ts : List A) → sum F (λ t. f t ⊕ g t) ts ≡ sum F f ts ⊕ sum F g ts
  sum_plus f g [] = sym (plus_self 0)
  sum_plus f g (t ∷ ts) = rw (sum, sum_plus f g ts) (simp (plus_assoc, plus_comm, plus_left_comm laws))

  pub sum_times : {A : Type 0} (k : ℕ) (f : A → ℕ) (ts : List A) → sum F (λ t. k ⊗ f t) ts ≡ k ⊗ sum F f ts
  sum_times k f [] = sym (times_zero_right laws k)
  sum_times k f (t ∷ ts) = rw (sum, sum_times k f ts) (sym (distributes k (f t) _))

  pub sum_zero : {A : Type 0} (f : A → ℕ) (ts : List A) → AllByRecursion (λ t. f t ≡ 0) ts → sum F f ts ≡ 0
  sum_zero f [] h = refl
  sum_zero f (t ∷ ts) h = rw (sum, h.0, sum_zero f ts h.1) (plus_self 0)

  pub all_any : {A : Type 0} (P : A → Type 0) → ((t : A) → P t) → (ts : List A) → AllByRecursion P ts
  all_any P f [] = tt
  all_any P f (t ∷ ts) = (f t, all_any P f ts)

  collect : (a c e x w : ℕ) → a ⊗ (c ⊗ w) ⊕ c ⊗ e ⊗ (x ⊗ w) ≡ c ⊗ (a ⊕ x ⊗ e) ⊗ w
  collect a c e x w = simp (distributes, distrib_right laws, times_assoc, times_comm, times_left_comm laws)

  spread : (c x y w : ℕ) → c ⊗ (x ⊕ y) ⊗ w ≡ c ⊗ (x ⊗ w) ⊕ y ⊗ (c ⊗ w)
  spread c x y w = simp (distributes, distrib_right laws, times_assoc, times_comm, times_left_comm laws)

  -- the coefficients of p against the moments: the terms with coefficients multiplied by the values of p
  pub exchange : {A : Type 0} (c x : A → ℕ) (ts : List A) (p : List ℕ) (j : ℕ)
      → dot F p (moment F c x ts) j ≡ moment F (λ t. c t ⊗ eval F p (x t)) x ts j
  exchange c x ts [] j = sym (sum_zero _ ts (all_any _ (λ t. simp (times_zero_right laws, times_zero_left laws)) ts))
  exchange c x ts (a ∷ p) j =
      ap (λ z. a ⊗ moment F c x ts j ⊕ z) (exchange c x ts p (suc j))
      ∙ ap (λ z. z ⊕ moment F (λ t. c t ⊗ eval F p (x t)) x ts (suc j)) (sym (sum_times a (λ t. c t ⊗ power F (x t) j) ts))
      ∙ sym (sum_plus _ _ ts) ∙ sum_same _ _ ts (λ t. collect a (c t) _ (x t) _)

  pub shifted : {A : Type 0} (c x : A → ℕ) (y : ℕ) (ts : List A) (j : ℕ)
      → moment F (λ t. c t ⊗ (x t ⊕ y)) x ts j ≡ moment F c x ts (suc j) ⊕ y ⊗ moment F c x ts j
  shifted c x y ts j =
      rw (← (sum_times y (λ t. c t ⊗ power F (x t) j) ts), ← (sum_plus (λ t. c t ⊗ power F (x t) (suc j)) (λ t. y ⊗ (c t ⊗ power F (x t) j)) ts))
      (sum_same _ _ ts (λ t. spread (c t) (x t) y _))

  -- terms at different points whose first moments vanish, as many as there are terms, vanish
  pub separate : {A : Type 0} (c x : A → ℕ) → ((t : A) → c t < elements) → ((t : A) → x t < elements)
      → (ts : List A) → Apart x ts → ((j : ℕ) → j < length ts → moment F c x ts j ≡ 0) → AllByRecursion (λ t. c t ≡ 0) ts
  separate c x cb xb [] d m = tt
  separate c x cb xb (t ∷ ts) d m =
      let head : (j : ℕ) → c t ⊗ (x t ⊕ x t) ⊗ power F (x t) j ≡ 0 = λ j. simp (plus_self, times_zero_right laws, times_zero_left laws) in
      let next : (j : ℕ) → j < length ts → moment F (λ s. c s ⊗ (x s ⊕ x t)) x ts j ≡ 0 =
      λ j h. sym (plus_zero_left laws _ (sum_below _ ts))
      ∙ ap (λ z. z ⊕ moment F (λ s. c s ⊗ (x s ⊕ x t)) x ts j) (sym (head j))
      ∙ shifted c x (x t) (t ∷ ts) j
      ∙ rw (m (suc j) (omega arith), m j (omega arith), times_zero_right laws) (plus_self 0) in
      let rest : AllByRecursion (λ s. c s ⊗ (x s ⊕ x t) ≡ 0) ts = separate (λ s. c s ⊗ (x s ⊕ x t)) x (λ s. times_below _ _) xb ts d.1 next in
      let zeros : AllByRecursion (λ s. c s ≡ 0) ts =
      all_both _ _ _ (λ s n z. zero_of_times laws (x s ⊕ x t) (c s) (plus_below _ _) (cb s) (λ e. n (same_of_sum_zero laws _ _ (xb s) (xb t) e)) (times_comm _ _ ∙ z)) ts d.0 rest in
      let none : sum F (λ s. c s ⊗ 1) ts ≡ 0 = sum_zero _ ts (All-weaker _ _ (λ s z. ap (λ v. v ⊗ 1) z ∙ times_zero_left laws 1) ts zeros) in
      (sym (times_one_right laws _ (cb t)) ∙ sym (plus_zero_right laws _ (times_below _ _)) ∙ ap (λ z. c t ⊗ 1 ⊕ z) (sym none) ∙ m 0 (omega arith), zeros)
