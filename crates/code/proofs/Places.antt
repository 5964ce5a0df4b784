-- Places that pass a test, and values of a polynomial by its terms. Assumes nothing.
use Rattle.std.proofs.Common.{◌≡◌, ℕ, zero, suc, ◌+◌, ◌<◌, Bool, true, false, ◌==◌, cond, List, [], ◌∷◌, ◌++◌, length, get_or, filter, fold, sym, refl, ap, ◌∙◌, subst, add-zero, add-one, arith, eq-eqb}
use native.Mathlib.Decide.{ℕ_discrete}
use Rattle.std.proofs.lemmas.List.{length_push}
use Rattle.arithmetic.specs.Laws.{Operations, Lawful, power, elements}
use Rattle.code.specs.Words.{below}
use Rattle.code.specs.Polynomials.{eval, eval_monic, total}
use Rattle.code.specs.Locating.{Terms, zero_at}
use Rattle.code.proofs.Basic.{plus_zero_left, plus_zero_right, times_one_left, times_zero_right, times_left_comm, power_times}
use Rattle.code.proofs.Quotients.{eval_monic_value}
use Rattle.code.proofs.Filled.{left_more, Beside}
use Rattle.code.proofs.Values.{eval_low}

-- one more place looked at: it is kept if it passes
kept_more : (test : ℕ → Bool) (n : ℕ) {passes : Bool} → test n ≡ passes → filter test (below (n + 1)) ≡ cond passes (n ∷ filter test (below n)) (filter test (below n))
kept_more test n e = ap (λ m. filter test (below m)) (add-one n) ∙ ap (λ b. cond b (n ∷ filter test (below n)) (filter test (below n))) e

-- a place that passes is kept beside those before it
pub kept_before : (test : ℕ → Bool) (i n : ℕ) → i < n → test i ≡ true → length (filter test (below i)) < length (filter test (below n))
kept_before test i zero h e = absurd (omega arith)
kept_before test i (suc n) h e = elim (ℕ_discrete i n) [
  | yes s ↦ subst (λ m. length (filter test (below i)) < length (filter test (below m))) (add-one i ∙ ap suc s) (let l = ap length (kept_more test i e) in omega arith)
  | no d ↦ go (test n) (kept_before test i n (omega arith) e)
]
  where
    go : (b : Bool) → length (filter test (below i)) < length (filter test (below n)) → length (filter test (below i)) < length (cond b (n ∷ filter test (below n)) (filter test (below n)))
    go true l = omega arith
    go false l = l

-- an iterator over the values, beside another, comes to a value: its place is kept if it is zero
pub zeros_more : {X Y : Type 0} {values left rest : List ℕ} {others left_others : List X} {v : ℕ} {zero : Bool} (seen : List Y) (y : Y) → Beside values others left left_others (length seen)
    → left ≡ v ∷ rest → (v == 0) ≡ zero
    → filter (zero_at values) (below (length (seen ++ (y ∷ [])))) ≡ cond zero (length seen ∷ filter (zero_at values) (below (length seen))) (filter (zero_at values) (below (length seen)))
zeros_more {values} seen y beside come is_zero =
    let here = left_more values (length seen) 0 come beside.first in
    ap (λ n. filter (zero_at values) (below n)) (length_push seen y) ∙ kept_more (zero_at values) (length seen) (ap (λ z. z == 0) (sym here.1) ∙ is_zero)

-- at a zero one more place is still to be kept
pub zero_room : {X : Type 0} {values left rest : List ℕ} {others left_others : List X} {v i : ℕ} → Beside values others left left_others i → left ≡ v ∷ rest → v ≡ 0
    → length (filter (zero_at values) (below i)) < length (filter (zero_at values) (below (length values)))
zero_room {values} {i} beside come is_zero =
    let here = left_more values i 0 come beside.first in
    kept_before (zero_at values) i (length values) here.0 (eq-eqb (get_or values i 0) 0 (sym here.1 ∙ is_zero))

module _ {F : Operations} (laws : Lawful F) where
  infixl 60 ◌⊕◌
  infixl 70 ◌⊗◌
  open F use {plus as ◌⊕◌, times as ◌⊗◌}
  open laws use {plus_below, plus_assoc, times_assoc, times_comm, distributes}

  sum_step : (a x y e : ℕ) → a ⊗ y ⊕ (x ⊗ y) ⊗ e ≡ y ⊗ (a ⊕ x ⊗ e)
  sum_step a x y e = simp (distributes, times_assoc, times_comm, times_left_comm laws)

  -- terms that begin at the power j
  total_from : (cs ts : List ℕ) (x j : ℕ) → length ts ≡ length cs → ((k : ℕ) → k < length cs → get_or ts k 0 ≡ get_or cs k 0 ⊗ power F x (j + k)) → total F ts ≡ power F x j ⊗ eval F cs x
  total_from [] [] x j l e = sym (times_zero_right laws _)
  total_from [] (t ∷ ts) x j l e = absurd (omega arith)
  total_from (a ∷ cs) [] x j l e = absurd (omega arith)
  total_from (a ∷ cs) (t ∷ ts) x j l e =
      let long : length ts ≡ length cs = omega arith in
      let head : t ≡ a ⊗ power F x j = e 0 (omega arith) ∙ ap (λ n. a ⊗ power F x n) (add-zero j) in
      let tail : total F ts ≡ power F x (suc j) ⊗ eval F cs x =
      total_from cs ts x (suc j) long (λ k h. e (suc k) (omega arith) ∙ (let n : j + suc k ≡ suc j + k = omega arith in ap (λ m. get_or cs k 0 ⊗ power F x m) n)) in
      ap (λ z. z ⊕ total F ts) head ∙ ap (λ z. a ⊗ power F x j ⊕ z) tail ∙ sum_step a x (power F x j) (eval F cs x)

  -- the terms add up to the value
  pub total_value : (p ts : List ℕ) (x : ℕ) → length ts ≡ length (p ++ (1 ∷ [])) → Terms F (p ++ (1 ∷ [])) x ts → total F ts ≡ eval_monic F p x
  total_value p ts x l e =
      let cs = p ++ (1 ∷ []) in
      total_from cs ts x 0 l (λ k h. (e k h).1 ∙ (let n : k ≡ 0 + k = omega arith in ap (λ m. get_or cs k 0 ⊗ power F x m) n))
      ∙ times_one_left laws _ (eval_low laws cs x)
      ∙ eval_monic_value laws p x

  power_one : (k : ℕ) → power F 1 k ≡ 1
  power_one zero = refl
  power_one (suc k) = ap (λ z. 1 ⊗ z) (power_one k) ∙ times_one_left laws 1 (omega arith)

  -- a term at the point 1
  pub first_term : (c k : ℕ) → c ⊗ 1 ≡ c ⊗ power F 1 k
  first_term c k = ap (λ z. c ⊗ z) (sym (power_one k))

  -- a term at the next point
  pub next_term : (c k i : ℕ) → power F F.alpha k ⊗ (c ⊗ power F (power F F.alpha i) k) ≡ c ⊗ power F (power F F.alpha (suc i)) k
  next_term c k i = times_left_comm laws _ _ _ ∙ ap (λ z. c ⊗ z) (sym (power_times laws F.alpha (power F F.alpha i) k))

  -- a sum made from the first number on
  fold_from : (ts : List ℕ) (acc : ℕ) → acc < elements → fold F.plus acc ts ≡ acc ⊕ total F ts
  fold_from [] acc b = sym (plus_zero_right laws acc b)
  fold_from (t ∷ ts) acc b = fold_from ts (acc ⊕ t) (plus_below _ _) ∙ plus_assoc acc t (total F ts)

  pub total_below : (ts : List ℕ) → total F ts < elements
  total_below [] = omega arith
  total_below (t ∷ ts) = plus_below _ _

  pub fold_total : (ts : List ℕ) → fold F.plus 0 ts ≡ total F ts
  fold_total ts = fold_from ts 0 (omega arith) ∙ plus_zero_left laws (total F ts) (total_below ts)
