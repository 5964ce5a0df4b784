-- A correction, one coefficient at a time. Assumes nothing.
use Rattle.std.proofs.Common.{◌≡◌, ℕ, suc, ◌+◌, ◌<◌, ◌≤◌, List, [], ◌∷◌, ◌++◌, length, get_or, take, drop, sym, ap, ◌∙◌, arith}
use Rattle.std.proofs.lemmas.List.{drop_more, take_more, same_from_push}
use Rattle.arithmetic.specs.Laws.{Operations}
use Rattle.code.specs.Polynomials.{eval_monic, dot_monic, quotient}

-- what the loop has of p above the coefficient k: the value, the quotient in the window k, and the quotient's value
pub record Divides (F : Operations) (p : List ℕ) (s : ℕ → ℕ) (x k value numerator denominator : ℕ) : Type 0 where
  pub value_is : value ≡ eval_monic F (drop (k + 1) p) x
  pub numerator_is : numerator ≡ dot_monic F (quotient F (drop (k + 1) p) x) s k
  pub denominator_is : denominator ≡ eval_monic F (quotient F (drop (k + 1) p) x) x

module _ (F : Operations) (p : List ℕ) (s : ℕ → ℕ) (x m k : ℕ) where
  pub divides_more : {a b v n d v' n' d' : ℕ} → m ≡ k + 1 → m < length p → a ≡ get_or p m 0 → b ≡ s k → Divides F p s x m v n d
      → v' ≡ F.plus a (F.times x v) → n' ≡ F.plus (F.times v' b) n → d' ≡ F.plus v' (F.times x d) → Divides F p s x k v' n' d'
  divides_more {a} {b} {v} {n} {d} {v'} {n'} {d'} one h read below old ev en ed =
      let above = drop (m + 1) p in
      let rest = quotient F above x in
      let front : drop (k + 1) p ≡ a ∷ above = ap (λ i. drop i p) (sym one) ∙ drop_more p m 0 h ∙ ap (λ z. z ∷ above) (sym read) in
      let new : v' ≡ eval_monic F (a ∷ above) x = ev ∙ ap (λ z. F.plus a (F.times x z)) old.value_is in
      let place : m ≡ suc k = omega (arith, one) in
      record {
        value_is = new ∙ ap (λ q. eval_monic F q x) (sym front);
        numerator_is = en ∙ ap (λ z. F.plus (F.times v' z) n) below ∙ ap (λ z. F.plus (F.times v' (s k)) z) (old.numerator_is ∙ ap (dot_monic F rest s) place)
            ∙ ap (λ z. dot_monic F (z ∷ rest) s k) new ∙ ap (λ q. dot_monic F (quotient F q x) s k) (sym front);
        denominator_is = ed ∙ ap (λ z. F.plus v' (F.times x z)) old.denominator_is ∙ ap (λ z. eval_monic F (z ∷ rest) x) new ∙ ap (λ q. eval_monic F (quotient F q x) x) (sym front);
      }

-- what an iterator from the back has left ends with the element at its place
pub left_below : {X : Type 0} {left rest : List X} {x : X} (xs : List X) (m n : ℕ) (d : X) → left ≡ rest ++ (x ∷ []) → left ≡ take m xs → m ≡ n + 1 → m ≤ length xs → (rest ≡ take n xs) × (x ≡ get_or xs n d)
left_below {rest} {x} xs m n d s e one h = same_from_push rest (take n xs) x (get_or xs n d) (sym s ∙ e ∙ ap (λ i. take i xs) one ∙ take_more xs n d (omega arith))
