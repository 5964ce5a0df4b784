-- The search for a polynomial that a row of numbers annuls. Assumes nothing.
use Rattle.std.proofs.Common.{◌≡◌, ℕ, zero, suc, ◌+◌, ◌-◌, ◌<◌, ◌≤◌, ◌≢◌, List, ◌++◌, length, get_or, take, drop, set, replicate, sym, refl, ap, ◌∙◌, add-zero, add-one, arith, length-append, take-append-drop, drop-cons}
use native.Mathlib.Decide.{ℕ_discrete}
use lib.ListN.{length-replicate}
use lib.Seq.{drop-length}
use Rattle.std.proofs.lemmas.List.{take-set, drop-set, length-take-le}
use Rattle.arithmetic.specs.Laws.{Operations, Lawful, elements}
use Rattle.code.specs.Polynomials.{dot_monic, plus_monic, reads}
use Rattle.code.specs.Locating.{poly, Found}
use Rattle.code.specs.declared.shapes.Monic.{Monic}
use Rattle.code.specs.declared.shapes.Recurrence.{Recurrence}
use Rattle.code.proofs.Basic.{inverse_of, plus_zero_left, times_one_right, times_zero_left, times_zero_right}
use Rattle.code.proofs.Monic.{dot_monic_below, linear}

-- turns of the loops
module _ (F : Operations) where
  pub plus_end : (k : ℕ) (p q : List ℕ) (y : ℕ) → length p < length q → y ≡ F.plus (get_or q (length p) 0) k
      → set q (length p) y ≡ take (length p) q ++ plus_monic F k (drop (length p) p) (drop (length p) q)
  plus_end k p q y h e =
      sym (take-append-drop (length p) (set q (length p) y)) ∙ rw (take-set q (length p) y, drop-set q (length p) y h, drop-length p, drop-cons q (length p) 0 h, add-one (length p), e) refl

module _ {F : Operations} (laws : Lawful F) where
  infixl 60 ◌⊕◌
  infixl 70 ◌⊗◌
  open F use {plus as ◌⊕◌, times as ◌⊗◌}
  open laws use {plus_self, times_assoc}

  -- x^e p in a window is p in the window e places on
  dot_raised : (s : ℕ → ℕ) → ((j : ℕ) → s j < elements) → (e : ℕ) (p : List ℕ) (j : ℕ) → dot_monic F (replicate e 0 ++ p) s j ≡ dot_monic F p s (j + e)
  dot_raised s sb zero p j = ap (dot_monic F p s) (sym (add-zero j))
  dot_raised s sb (suc e) p j =
      let next : suc j + e ≡ j + suc e = omega arith in
      ap (λ z. z ⊕ dot_monic F (replicate e 0 ++ p) s (suc j)) (times_zero_left laws (s j))
      ∙ plus_zero_left laws _ (dot_monic_below laws (replicate e 0 ++ p) s sb (suc j))
      ∙ dot_raised s sb e p (suc j)
      ∙ ap (dot_monic F p s) next

  -- how a window comes to be 0: its value cancels, or there is nothing in it
  cancels : {d k x y : ℕ} → d < elements → x ≡ d → k ⊗ y ≡ 1 → x ⊕ d ⊗ k ⊗ y ≡ 0
  cancels {d} {k} {x} {y} h same e = ap (λ z. z ⊕ d ⊗ k ⊗ y) same ∙ ap (λ z. d ⊕ z) (times_assoc d k y ∙ ap (λ z. d ⊗ z) e ∙ times_one_right laws d h) ∙ plus_self d

  vanishes : {x y : ℕ} (k : ℕ) → x ≡ 0 → y ≡ 0 → x ⊕ k ⊗ y ≡ 0
  vanishes {y} k x_zero y_zero = ap (λ z. z ⊕ k ⊗ y) x_zero ∙ ap (λ z. 0 ⊕ k ⊗ z) y_zero ∙ ap (λ z. 0 ⊕ z) (times_zero_right laws k) ∙ plus_self 0

-- one step of the search: v is the value of the window after those annulled, and k what the lower polynomial is multiplied by
module _ {F : Operations} (laws : Lawful F) {sums : List ℕ} (small : (j : ℕ) → reads sums j < elements) {r : Recurrence} (found : Found F sums r)
    (full : length r.current.low ≡ 22) (full_before : length r.previous.low ≡ 22) {v k : ℕ} (is_value : v ≡ dot_monic F (poly r.current) (reads sums) r.windows) (is_factor : k ≡ F.times v r.scale) where
  infixl 60 ◌⊕◌
  infixl 70 ◌⊗◌
  open F use {plus as ◌⊕◌, times as ◌⊗◌, inverse}
  open laws use {times_comm}

  abbrev dot : List ℕ → ℕ → ℕ
  dot a = dot_monic F a (reads sums)

  abbrev p : List ℕ
  p = poly r.current

  abbrev q : List ℕ
  q = poly r.previous

  abbrev u : ℕ
  u = r.windows

  degree : length p ≡ r.current.degree
  degree = length-take-le _ r.current.low (omega (arith, r.current.within))

  degree_before : length q ≡ r.previous.degree
  degree_before = length-take-le _ r.previous.low (omega (arith, r.previous.within))

  value_below : dot p u < elements
  value_below = dot_monic_below laws p (reads sums) small u

  -- a window of the sum that the step makes
  in_window : (a b next : List ℕ) (j : ℕ) → length a < length b → next ≡ plus_monic F k a b → dot next j ≡ dot b j ⊕ dot p u ⊗ r.scale ⊗ dot a j
  in_window a b next j h e = ap (λ y. dot y j) e ∙ linear laws k a b (reads sums) j h ∙ ap (λ z. dot b j ⊕ z ⊗ dot a j) (is_factor ∙ ap (λ z. z ⊗ r.scale) is_value)

  -- a polynomial times x^e: its length and its windows
  length_lift : (a lift : List ℕ) (e : ℕ) → lift ≡ replicate e 0 ++ a → length lift ≡ e + length a
  length_lift a lift e raised = omega (arith, ap length raised, length-append (replicate e 0) a, length-replicate {A = ℕ} e 0)

  in_lift : (a lift : List ℕ) (e j : ℕ) → lift ≡ replicate e 0 ++ a → dot lift j ≡ dot a (j + e)
  in_lift a lift e j raised = ap (λ y. dot y j) raised ∙ dot_raised laws (reads sums) small e a j

  -- the degree stays, and one more window is annulled
  pub extended : (lift next : Monic) → u < r.current.degree → poly lift ≡ replicate (r.current.degree - 1 - u) 0 ++ q → next.degree ≡ r.current.degree → poly next ≡ plus_monic F k (poly lift) p
      → Found F sums record { current = next; windows = u + 1; previous = r.previous; scale = r.scale }
  extended lift next h raised same made =
      let m = dot p u ⊗ r.scale in
      let e = r.current.degree - 1 - u in
      let short : length (poly lift) < length p = omega (arith, degree, degree_before, found.earlier_low, length_lift q (poly lift) e raised) in
      record {
        high = omega (arith, r.current.within);
        earlier_low = omega (arith, found.earlier_low);
        annuls = λ j l. in_window (poly lift) p (poly next) j short made ∙ ap (λ z. dot p j ⊕ m ⊗ z) (in_lift q (poly lift) e j raised) ∙ elim (ℕ_discrete j u) [
          | yes here ↦ cancels laws value_below (ap (dot p) here) (found.fails (j + e) (omega arith))
          | no other ↦ vanishes laws m (found.annuls j (omega arith)) (found.earlier (j + e) (omega arith))
        ];
        earlier = λ j l. found.earlier j (omega arith);
        fails = λ j l. found.fails j (omega arith);
      }

  -- the degree grows to u + 1
  pub grown : {i : ℕ} (lift next : Monic) → r.current.degree ≤ u → poly lift ≡ replicate (u + 1 - r.current.degree) 0 ++ p → next.degree ≡ u + 1 → poly next ≡ plus_monic F k q (poly lift) → v ≢ 0 → i ≡ inverse v
      → Found F sums record { current = next; windows = r.current.degree; previous = r.current; scale = i }
  grown lift next h raised more made some is_inverse =
      let m = dot p u ⊗ r.scale in
      let e = u + 1 - r.current.degree in
      let short : length q < length (poly lift) = omega (arith, degree, degree_before, found.earlier_low, length_lift p (poly lift) e raised) in
      let last_place : (j : ℕ) → j + 1 ≡ r.current.degree → j + e ≡ u = λ j last. omega arith in
      record {
        high = r.current.within;
        earlier_low = omega arith;
        annuls = λ j l. in_window q (poly lift) (poly next) j short made ∙ ap (λ z. z ⊕ m ⊗ dot q j) (in_lift p (poly lift) e j raised) ∙ elim (ℕ_discrete (j + 1) r.current.degree) [
          | yes last ↦ cancels laws value_below (ap (dot p) (last_place j last)) (found.fails j last)
          | no other ↦ vanishes laws m (found.annuls (j + e) (omega arith)) (found.earlier j (omega arith))
        ];
        earlier = λ j l. found.annuls j (omega arith);
        fails = λ j l.
            let here : j ≡ u = omega arith in
            ap (λ z. z ⊗ dot p j) (is_inverse ∙ ap inverse is_value) ∙ ap (λ n. inverse (dot p u) ⊗ dot p n) here ∙ times_comm _ _
            ∙ inverse_of laws (dot p u) (λ z. some (is_value ∙ z)) value_below;
      }
