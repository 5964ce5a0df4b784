-- A polynomial that the moments of terms annul vanishes at their points. Assumes nothing.
use Rattle.std.proofs.Common.{◌≡◌, ℕ, suc, ◌+◌, ◌<◌, ◌≤◌, ◌≢◌, List, [], ◌∷◌, length, sym, refl, ◌∙◌, arith}
use Rattle.arithmetic.specs.Laws.{Operations, Lawful, elements}
use Rattle.std.specs.List.{AllByRecursion}
use Rattle.code.specs.Polynomials.{Apart, dot, eval, moment}
use Rattle.code.proofs.Basic.{zero_of_times}
use Rattle.code.proofs.Moments.{all_both, exchange, separate}
use Rattle.code.proofs.Values.{eval_low}

pub dot_same : (F : Operations) (p : List ℕ) (s s' : ℕ → ℕ) (j : ℕ) → ((k : ℕ) → k < j + length p → s k ≡ s' k) → dot F p s j ≡ dot F p s' j
dot_same F [] s s' j e = refl
dot_same F (a ∷ p) s s' j e =
    let here : s j ≡ s' j = e j (omega arith) in
    let rest = dot_same F p s s' (suc j) (λ k h. e k (omega arith)) in
    cc

module _ {F : Operations} (laws : Lawful F) where
  infixl 60 ◌⊕◌
  infixl 70 ◌⊗◌
  open F use {plus as ◌⊕◌, times as ◌⊗◌}
  open laws use {times_below}

  module _ {A : Type 0} (c x : A → ℕ) (cb : (t : A) → c t < elements) (xb : (t : A) → x t < elements) (ts : List A) where
    pub cover : Apart x ts → AllByRecursion (λ t. c t ≢ 0) ts → (p : List ℕ)
        → ((j : ℕ) → j < length ts → dot F p (moment F c x ts) j ≡ 0) → AllByRecursion (λ t. eval F p (x t) ≡ 0) ts
    cover d n p e =
        all_both _ _ _ (λ t h z. zero_of_times laws (c t) (eval F p (x t)) (cb t) (eval_low laws p (x t)) h z) ts n
        (separate laws (λ t. c t ⊗ eval F p (x t)) x (λ t. times_below _ _) xb ts d (λ j h. sym (exchange laws c x ts p j) ∙ e j h))

    -- the same with the first m moments given, as s, and n equations
    pub cover_given : Apart x ts → AllByRecursion (λ t. c t ≢ 0) ts → (p : List ℕ) (s : ℕ → ℕ) (m n : ℕ) → length ts ≤ n → n + length p ≤ m + 1
        → ((j : ℕ) → j < m → s j ≡ moment F c x ts j) → ((j : ℕ) → j < n → dot F p s j ≡ 0) → AllByRecursion (λ t. eval F p (x t) ≡ 0) ts
    cover_given d nz p s m n few room same e =
        cover d nz p (λ j h. sym (dot_same F p s _ j (λ k l. same k (omega arith))) ∙ e j (omega arith))
