-- A word of the code that is near is found from any polynomial that the sums annul. Assumes nothing.
use Rattle.std.proofs.Common.{◌≡◌, ℕ, zero, suc, ◌+◌, ◌<◌, ◌≤◌, Bool, true, false, cond, ◌≢◌, ◌⊎◌, List, [], ◌∷◌, ◌++◌, length, filter, sym, refl, ap, ◌∙◌, inl, inr, arith, length-append, eqb-true}
use native.Mathlib.Decide.{ℕ_discrete, dec_lt}
use borrow.Author.Tests.{eqb-false}
use Rattle.std.specs.List.{AllByRecursion}
use Rattle.std.proofs.ByRecursion.{All-weaker, kept_by_passes}
use Rattle.arithmetic.specs.Laws.{Operations, Lawful, power, elements, longest}
use Rattle.code.specs.Words.{coefficient, below, distance, sum, syndrome}
use Rattle.code.specs.Polynomials.{correction, dot_monic, eval, eval_monic, is_root, moment, quotient}
use Rattle.code.proofs.Distances.{differs, same_at, other_at, distance_places, all_below, below_all}
use Rattle.code.proofs.Basic.{plus_zero_left, plus_zero_right, times_one_right, times_zero_right, times_zero_left, plus_self_left, same_of_sum_zero, power_below, inverse_of}
use Rattle.code.proofs.Moments.{sum_zero, sum_below, exchange, all_both}
use Rattle.code.proofs.Quotients.{eval_monic_below, eval_monic_value, roots, quotient_root, length_quotient}
use Rattle.code.proofs.Cover.{dot_same, cover_given}
use Rattle.code.proofs.Unique.{apart_kept, all_or_fails, apart_powers, moments_all, moments_kept}
use Rattle.code.proofs.Monic.{dot_monic_value}

lt_or_gt : (k i : ℕ) → k ≢ i → (k < i) ⊎ (i < k)
lt_or_gt k i n = elim (dec_lt k i) [ yes h ↦ inl h | no h ↦ inr (omega arith) ]

module _ {F : Operations} (laws : Lawful F) where
  infixl 60 ◌⊕◌
  infixl 70 ◌⊗◌
  open F use {plus as ◌⊕◌, times as ◌⊗◌}
  open laws use {plus_below, times_below, times_assoc, plus_self, powers_differ}

  -- the point of a place
  abbrev pub point : ℕ → ℕ
  point = power F F.alpha

  -- the places below n that are roots
  abbrev pub suspects : List ℕ → ℕ → List ℕ
  suspects p n = filter (is_root F p) (below n)

  -- a sum over the numbers below n whose every part but one is zero
  sum_one : (c : ℕ → ℕ) → ((k : ℕ) → c k < elements) → (n i : ℕ) → i < n → ((k : ℕ) → k < n → k ≢ i → c k ≡ 0) → sum F c (below n) ≡ c i
  sum_one c cb zero i h z = absurd (omega arith)
  sum_one c cb (suc n) i h z = elim (ℕ_discrete i n) [
    | yes e ↦ ap (λ y. c n ⊕ y) (sum_zero laws c (below n) (all_below _ n (λ k l. z k (omega arith) (omega arith)))) ∙ plus_zero_right laws (c n) (cb n) ∙ ap c (sym e)
    | no m ↦ ap (λ y. y ⊕ sum F c (below n)) (z n (omega arith) (omega arith)) ∙ plus_zero_left laws _ (sum_below laws c (below n)) ∙ sum_one c cb n i (omega arith) (λ k l d. z k (omega arith) d)
  ]

  pub root_count : (p : List ℕ) (n : ℕ) → n ≤ longest → length (suspects p n) ≤ length p
  root_count p n short =
      roots laws point (power_below laws F.alpha) (suspects p n) p (apart_kept _ _ (below n) (apart_powers laws n short))
      (All-weaker _ _ (λ k b. eqb-true _ _ b) (suspects p n) (kept_by_passes (is_root F p) (below n)))

  points_apart : (n k i : ℕ) → n ≤ longest → k < n → i < n → k ≢ i → point k ≢ point i
  points_apart n k i short b h d = elim (lt_or_gt k i d) [ inl lt ↦ powers_differ k i lt (omega arith) | inr gt ↦ λ z. powers_differ i k gt (omega arith) (sym z) ]

  -- a polynomial of as many coefficients as there are suspects, that vanishes at all of them, and a suspect i
  module _ (p q : List ℕ) (n : ℕ) (short : n ≤ longest) (a : ℕ) (long : suc (length q) ≡ length (suspects p n))
      (zeros : AllByRecursion (λ k. eval_monic F (a ∷ q) (point k) ≡ 0) (suspects p n)) (i : ℕ) (h : i < n) (here : is_root F p i ≡ true) where
    at_suspect : (k : ℕ) → k < n → is_root F p k ≡ true → eval_monic F (a ∷ q) (point k) ≡ 0
    at_suspect k b r = elim (below_all _ n k b (all_or_fails _ _ (below n) zeros)) [
      | inl off ↦ (let z : true ≡ false = sym r ∙ off in let y : ◌≡◌ {A = ℕ} 0 1 = cc in absurd (omega arith))
      | inr z ↦ z
    ]

    rest : List ℕ
    rest = quotient F q (point i)

    pub others_zero : (k : ℕ) → k < n → k ≢ i → is_root F p k ≡ true → eval_monic F (quotient F q (point i)) (point k) ≡ 0
    others_zero k b d r = quotient_root laws a q (point k) (point i) (power_below laws _ k) (power_below laws _ i) (points_apart n k i short b h d) (at_suspect i h here) (at_suspect k b r)

    all_zero : eval_monic F (quotient F q (point i)) (point i) ≡ 0 → (k : ℕ) → k < n → is_root F p k ≡ true → eval_monic F (quotient F q (point i)) (point k) ≡ 0
    all_zero e k b r = elim (ℕ_discrete k i) [ yes s ↦ ap (λ m. eval_monic F (quotient F q (point i)) (point m)) s ∙ e | no d ↦ others_zero k b d r ]

    all_of : (P : ℕ → Type 0) → ((k : ℕ) → k < n → is_root F p k ≡ true → P k) → AllByRecursion P (suspects p n)
    all_of P g = all_both _ _ _ (λ k b r. g k b r) (suspects p n) (within n (λ k b. b)) (kept_by_passes (is_root F p) (below n))
      where
        within : (m : ℕ) → ((k : ℕ) → k < m → k < n) → AllByRecursion (λ k. k < n) (filter (is_root F p) (below m))
        within zero s = tt
        within (suc m) s = go (is_root F p m) (within m (λ k b. s k (omega arith)))
          where
            go : (b : Bool) → AllByRecursion (λ k. k < n) (filter (is_root F p) (below m)) → AllByRecursion (λ k. k < n) (cond b (m ∷ filter (is_root F p) (below m)) (filter (is_root F p) (below m)))
            go true r = (s m (omega arith), r)
            go false r = r

    pub not_zero : eval_monic F (quotient F q (point i)) (point i) ≢ 0
    not_zero e =
        let k = roots laws point (power_below laws F.alpha) (suspects p n) (quotient F q (point i)) (apart_kept _ _ (below n) (apart_powers laws n short)) (all_of _ (all_zero e)) in
        omega (arith, length_quotient F q (point i))

  -- the word w, a word v of the code near it, and the sums of w
  module _ (w v : List ℕ) (l : length w ≡ length v) (short : length w ≤ longest) (wb : (i : ℕ) → coefficient w i < elements) (vb : (i : ℕ) → coefficient v i < elements)
      (t : ℕ) (near : distance w v ≤ t) (sv : (j : ℕ) → j < t + t → syndrome F v j ≡ 0)
      (s : ℕ → ℕ) (sb : (j : ℕ) → s j < elements) (sw : (j : ℕ) → j < t + t → s j ≡ syndrome F w j) where
    located : (p : List ℕ) → length p ≤ t → ((j : ℕ) → j < t → dot_monic F p s j ≡ 0)
        → (i : ℕ) → i < length w → (coefficient w i ≡ coefficient v i) ⊎ (eval_monic F p (point i) ≡ 0)
    located p few e i h = elim (below_all _ (length w) i h (all_or_fails _ _ (below (length w)) all)) [
      | inl d ↦ inl (same_at w v i d)
      | inr z ↦ inr (sym (eval_monic_value laws p _) ∙ z)
    ]
      where
        places : List ℕ
        places = filter (differs w v) (below (length w))

        all : AllByRecursion (λ k. eval F (p ++ (1 ∷ [])) (point k) ≡ 0) places
        all = cover_given laws (λ k. coefficient w k ⊕ coefficient v k) point (λ k. plus_below _ _) (power_below laws F.alpha) places
            (apart_kept _ _ (below (length w)) (apart_powers laws (length w) short))
            (All-weaker _ _ (λ k d z. other_at w v k d (same_of_sum_zero laws _ _ (wb k) (vb k) z)) places (kept_by_passes (differs w v) (below (length w))))
            (p ++ (1 ∷ [])) s (t + t) t (omega (arith, distance_places w v l)) (omega (arith, length-append p (1 ∷ [])))
            (λ j b. sw j b ∙ sym (moments_kept laws w v l j ∙ rw (sv j b) (plus_zero_right laws _ (sum_below laws _ _))))
            (λ j b. dot_monic_value laws p s sb j ∙ e j b)

    -- at a root, the correction is the difference
    valued : (p q : List ℕ) → length p ≤ t → ((i : ℕ) → i < length w → (coefficient w i ≡ coefficient v i) ⊎ (eval_monic F p (point i) ≡ 0))
        → (a : ℕ) → suc (length q) ≡ length (suspects p (length w)) → AllByRecursion (λ k. eval_monic F (a ∷ q) (point k) ≡ 0) (suspects p (length w))
        → (i : ℕ) → i < length w → is_root F p i ≡ true → correction F s (a ∷ q) i ≡ coefficient w i ⊕ coefficient v i
    valued p q few loc a long zeros i h here =
        ap (λ z. z ⊗ F.inverse (at i)) measured
        ∙ times_assoc (e i) (at i) _
        ∙ ap (λ z. e i ⊗ z) (inverse_of laws (at i) (not_zero p q (length w) short a long zeros i h here) (eval_monic_below laws rest (point i)))
        ∙ times_one_right laws (e i) (plus_below _ _)
      where
        e : ℕ → ℕ
        e k = coefficient w k ⊕ coefficient v k

        rest : List ℕ
        rest = quotient F q (point i)

        at : ℕ → ℕ
        at k = eval_monic F rest (point k)

        part : ℕ → ℕ
        part k = e k ⊗ eval F (rest ++ (1 ∷ [])) (point k) ⊗ 1

        none : (k : ℕ) → k < length w → k ≢ i → part k ≡ 0
        none k b d = go (is_root F p k) refl
          where
            go : (t : Bool) → is_root F p k ≡ t → part k ≡ 0
            go true r =
                ap (λ z. e k ⊗ z ⊗ 1) (eval_monic_value laws rest (point k) ∙ others_zero p q (length w) short a long zeros i h here k b d r)
                ∙ ap (λ z. z ⊗ 1) (times_zero_right laws (e k)) ∙ times_zero_left laws 1
            go false r = elim (loc k b) [
              | inl same ↦ ap (λ z. z ⊗ eval F (rest ++ (1 ∷ [])) (point k) ⊗ 1) (ap (λ z. z ⊕ coefficient v k) same ∙ plus_self _)
                  ∙ ap (λ z. z ⊗ 1) (times_zero_left laws _) ∙ times_zero_left laws 1
              | inr root ↦ absurd (eqb-false _ _ r root)
            ]

        room : (k : ℕ) → k < 0 + length (rest ++ (1 ∷ [])) → k < t + t
        room k b = omega (arith, root_count p (length w) short, length-append rest (1 ∷ []), length_quotient F q (point i))

        measured : dot_monic F rest s 0 ≡ e i ⊗ at i
        measured =
            sym (dot_monic_value laws rest s sb 0)
            ∙ dot_same F (rest ++ (1 ∷ [])) s (moment F e point (below (length w))) 0
            (λ k b. sw k (room k b) ∙ sym (moments_all laws w v l k ∙ rw (sv k (room k b)) (plus_zero_right laws _ (sum_below laws _ _))))
            ∙ exchange laws e point (below (length w)) (rest ++ (1 ∷ [])) 0
            ∙ sum_one part (λ k. times_below _ _) (length w) i h none
            ∙ times_one_right laws _ (times_below _ _)
            ∙ ap (λ z. e i ⊗ z) (eval_monic_value laws rest (point i))

    -- whatever the locator p, as long as the sums annul it, and whatever the product q over its roots
    pub decoded : (p q : List ℕ) → length p ≤ t → ((j : ℕ) → j < t → dot_monic F p s j ≡ 0)
        → length q ≡ length (suspects p (length w)) → AllByRecursion (λ k. eval_monic F q (point k) ≡ 0) (suspects p (length w)) → (i : ℕ) → i < length w
        → cond (is_root F p i) (coefficient w i ⊕ correction F s q i) (coefficient w i) ≡ coefficient v i
    decoded p q few annuls long zeros i h = go (is_root F p i) refl q long zeros
      where
        loc : (k : ℕ) → k < length w → (coefficient w k ≡ coefficient v k) ⊎ (eval_monic F p (point k) ≡ 0)
        loc = located p few annuls

        go : (b : Bool) → is_root F p i ≡ b → (q : List ℕ) → length q ≡ length (suspects p (length w)) → AllByRecursion (λ k. eval_monic F q (point k) ≡ 0) (suspects p (length w))
            → cond b (coefficient w i ⊕ correction F s q i) (coefficient w i) ≡ coefficient v i
        go true d [] n z = elim (below_all _ (length w) i h (all_or_fails _ _ (below (length w)) z)) [
          | inl off ↦ (let y : ◌≡◌ {A = ℕ} 0 1 = cc in absurd (omega arith))
          | inr one ↦ (let y : ◌≡◌ {A = ℕ} 1 0 = one in absurd (omega arith))
        ]
        go true d (a ∷ r) n z = ap (λ y. coefficient w i ⊕ y) (valued p r few loc a n z i h d) ∙ plus_self_left laws _ _ (vb i)
        go false d r n z = elim (loc i h) [ inl same ↦ same | inr root ↦ absurd (eqb-false _ _ d root) ]
