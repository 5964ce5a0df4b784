-- Two words of the code that differ in few places are one. Assumes nothing.
use Rattle.std.proofs.Common.{◌≡◌, ℕ, zero, suc, ◌-◌, ◌*◌, ◌<◌, ◌≤◌, Bool, true, false, cond, ◌≢◌, ◌⊎◌, List, [], ◌∷◌, length, get_or, filter, sym, refl, ap, ◌∙◌, inl, inr, arith}
use Rattle.arithmetic.specs.Laws.{Operations, Lawful, power, elements, longest}
use Rattle.std.specs.List.{AllByRecursion}
use Rattle.std.proofs.ByRecursion.{all_kept_by}
use Rattle.std.proofs.lemmas.List.{ext_get_or}
use Rattle.code.specs.Words.{coefficient, below, distance, sum, syndrome}
use Rattle.code.specs.Polynomials.{Apart, moment}
use Rattle.code.proofs.Distances.{differs, same_at, distance_places, all_below, below_all}
use Rattle.code.proofs.Basic.{zero_plus, one_times, plus_zero_left, times_zero_left, distrib_right, same_of_sum_zero, power_below, power_power}
use Rattle.code.proofs.Moments.{sum_below, sum_same, sum_plus, separate}

-- words with the same coefficients
pub coefficients_same : (u v : List ℕ) → length u ≡ length v → ((i : ℕ) → i < length u → coefficient u i ≡ coefficient v i) → u ≡ v
coefficients_same u v l same = ext_get_or 0 u v l (λ k h.
    let e : length u - suc (length u - suc k) ≡ k = omega arith in
    let d : length v - suc (length u - suc k) ≡ k = omega arith in
    sym (ap (λ n. get_or u n 0) e) ∙ same (length u - suc k) (omega arith) ∙ ap (λ n. get_or v n 0) d)

pub apart_kept : {A : Type 0} (x : A → ℕ) (test : A → Bool) (ts : List A) → Apart x ts → Apart x (filter test ts)
apart_kept x test [] a = tt
apart_kept x test (t ∷ ts) a = go (test t) (all_kept_by test _ ts a.0) (apart_kept x test ts a.1)
  where
    go : (b : Bool) → AllByRecursion (λ s. x s ≢ x t) (filter test ts) → Apart x (filter test ts) → Apart x (cond b (t ∷ filter test ts) (filter test ts))
    go true n r = (n, r)
    go false n r = r

-- what fails the test, or has what all that passes it has
pub all_or_fails : {A : Type 0} (P : A → Type 0) (test : A → Bool) (ts : List A) → AllByRecursion P (filter test ts) → AllByRecursion (λ t. (test t ≡ false) ⊎ P t) ts
all_or_fails P test [] a = tt
all_or_fails P test (t ∷ ts) a = go (test t) refl a (all_or_fails P test ts)
  where
    go : (b : Bool) → test t ≡ b → AllByRecursion P (cond b (t ∷ filter test ts) (filter test ts)) → (AllByRecursion P (filter test ts) → AllByRecursion (λ s. (test s ≡ false) ⊎ P s) ts)
        → ((test t ≡ false) ⊎ P t) × AllByRecursion (λ s. (test s ≡ false) ⊎ P s) ts
    go true e h rest = (inr h.0, rest h.1)
    go false e h rest = (inl e, rest h)

module _ {F : Operations} (laws : Lawful F) where
  infixl 60 ◌⊕◌
  infixl 70 ◌⊗◌
  open F use {plus as ◌⊕◌, times as ◌⊗◌}
  open laws use {plus_below, plus_assoc, times_comm, plus_self, powers_differ}

  pub apart_powers : (n : ℕ) → n ≤ longest → Apart (power F F.alpha) (below n)
  apart_powers zero h = tt
  apart_powers (suc n) h = (all_below _ n (λ i l. powers_differ i n l (omega arith)), apart_powers n (omega arith))

  -- what fails the test adds nothing
  pub sum_kept : {A : Type 0} (f : A → ℕ) (test : A → Bool) → ((t : A) → test t ≡ false → f t ≡ 0) → (ts : List A) → sum F f (filter test ts) ≡ sum F f ts
  sum_kept f test z [] = refl
  sum_kept f test z (t ∷ ts) = go (test t) refl (sum_kept f test z ts)
    where
      go : (b : Bool) → test t ≡ b → sum F f (filter test ts) ≡ sum F f ts → sum F f (cond b (t ∷ filter test ts) (filter test ts)) ≡ f t ⊕ sum F f ts
      go true e r = ap (λ y. f t ⊕ y) r
      go false e r = r ∙ sym (rw (z t e) (plus_zero_left laws _ (sum_below laws f ts)))

  module _ (u v : List ℕ) (l : length u ≡ length v) where
    -- the syndromes of two words give the moments of their difference
    pub moments_all : (j : ℕ) → moment F (λ i. coefficient u i ⊕ coefficient v i) (power F F.alpha) (below (length u)) j ≡ syndrome F u j ⊕ syndrome F v j
    moments_all j =
        sum_same laws _ _ (below (length u)) (λ i. rw (power_power laws F.alpha i j) (distrib_right laws (coefficient u i) (coefficient v i) (power F F.alpha (j * i))))
        ∙ sum_plus laws (λ i. coefficient u i ⊗ power F F.alpha (j * i)) (λ i. coefficient v i ⊗ power F F.alpha (j * i)) (below (length u))
        ∙ ap (λ n. syndrome F u j ⊕ sum F (λ i. coefficient v i ⊗ power F F.alpha (j * i)) (below n)) l

    pub moments_kept : (j : ℕ) → moment F (λ i. coefficient u i ⊕ coefficient v i) (power F F.alpha) (filter (differs u v) (below (length u))) j ≡ syndrome F u j ⊕ syndrome F v j
    moments_kept j = sum_kept (λ i. (coefficient u i ⊕ coefficient v i) ⊗ power F (power F F.alpha i) j) (differs u v) (λ i e. rw (same_at u v i e, plus_self) (times_zero_left laws _)) (below (length u)) ∙ moments_all j

    -- words of at most longest elements that differ in m places at most and whose first m syndromes vanish
    pub unique : (m : ℕ) → length u ≤ longest → ((i : ℕ) → coefficient u i < elements) → ((i : ℕ) → coefficient v i < elements) → distance u v ≤ m
        → ((j : ℕ) → j < m → syndrome F u j ≡ 0) → ((j : ℕ) → j < m → syndrome F v j ≡ 0) → u ≡ v
    unique m short ub vb near su sv =
        let places = below (length u) in
        let few : length (filter (differs u v) places) ≤ m = omega (arith, distance_places u v l) in
        let zeros : AllByRecursion (λ i. coefficient u i ⊕ coefficient v i ≡ 0) (filter (differs u v) places) =
        separate laws (λ i. coefficient u i ⊕ coefficient v i) (power F F.alpha) (λ i. plus_below _ _) (power_below laws F.alpha) (filter (differs u v) places)
        (apart_kept _ _ places (apart_powers (length u) short))
        (λ j h. moments_kept j ∙ rw (su j (omega arith), sv j (omega arith)) (plus_self 0)) in
        coefficients_same u v l (λ i h. elim (below_all _ (length u) i h (all_or_fails _ _ places zeros)) [
          | inl e ↦ same_at u v i e
          | inr z ↦ same_of_sum_zero laws _ _ (ub i) (vb i) z
        ])

  pub reduced : (a z : ℕ) → a ⊗ 1 ⊕ z ≡ a ⊕ z
  reduced a z = rw (times_comm a 1, one_times laws a, ← (zero_plus laws a), plus_assoc 0 a z) (plus_zero_left laws _ (plus_below a z))
