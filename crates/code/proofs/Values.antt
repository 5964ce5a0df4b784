-- Values of words and polynomials. Assumes nothing.
use Rattle.std.proofs.Common.{◌≡◌, ℕ, zero, suc, ◌+◌, ◌-◌, ◌*◌, ◌<◌, ◌≤◌, List, [], ◌∷◌, ◌++◌, length, get_or, take, drop, replicate, sym, refl, ap, ◌∙◌, add-one, arith, length-append, length-drop}
use Rattle.arithmetic.specs.Laws.{Operations, Lawful, power, elements}
use Rattle.code.specs.Words.{coefficient, below, sum, syndrome}
use Rattle.code.specs.Polynomials.{value, eval, eval_monic, added, advanced}
use Rattle.code.proofs.Basic.{plus_zero_left, plus_zero_right, times_one_right, times_zero_right, times_zero_left, distrib_right, plus_left_comm, times_left_comm, same_of_sum_zero, power_below, power_add, power_power}
use Rattle.code.proofs.Unique.{reduced}
use Rattle.std.proofs.lemmas.List.{drop_more, take_more, length-take-le}
use Rattle.std.proofs.Math.Seq.{drop-length}

pub length_added : (F : Operations) (p q : List ℕ) → length p ≡ length q → length (added F p q) ≡ length p
length_added F [] q e = refl
length_added F (a ∷ p) [] e = absurd (omega arith)
length_added F (a ∷ p) (b ∷ q) e = ap suc (length_added F p q (omega arith))

module _ {F : Operations} (laws : Lawful F) where
  infixl 60 ◌⊕◌
  infixl 70 ◌⊗◌
  open F use {plus as ◌⊕◌, times as ◌⊗◌}
  open laws use {plus_below, times_below, plus_assoc, times_assoc, plus_comm, times_comm, distributes, plus_self}

  pub value_below : (x : ℕ) (w : List ℕ) → value F x w < elements
  value_below x [] = omega arith
  value_below x (a ∷ w) = plus_below _ _

  append_step : (a p q v y : ℕ) → a ⊗ (p ⊗ q) ⊕ (v ⊗ q ⊕ y) ≡ (a ⊗ p ⊕ v) ⊗ q ⊕ y
  append_step a p q v y = simp (distrib_right laws, times_assoc, plus_assoc)

  pub value_append : (x : ℕ) (u v : List ℕ) → value F x (u ++ v) ≡ value F x u ⊗ power F x (length v) ⊕ value F x v
  value_append x [] v = sym (rw (times_zero_left laws (power F x (length v))) (plus_zero_left laws _ (value_below x v)))
  value_append x (a ∷ u) v = rw (length-append u v, power_add laws x (length u) (length v), value_append x u v) (append_step a _ _ _ _)

  pub value_push : (x : ℕ) (u : List ℕ) (a : ℕ) → value F x (u ++ (a ∷ [])) ≡ x ⊗ value F x u ⊕ a
  value_push x u a =
      value_append x u (a ∷ [])
      ∙ ap (λ z. value F x u ⊗ (x ⊗ 1) ⊕ z) (reduced laws a 0)
      ∙ sym (ap (λ z. z ⊕ (a ⊕ 0)) (sym (times_one_right laws _ (times_below _ _)) ∙ times_assoc _ _ _ ∙ times_left_comm laws _ _ _))
      ∙ ap (λ z. (x ⊗ value F x u) ⊕ z) (plus_comm a 0)
      ∙ sym (plus_assoc _ 0 a) ∙ ap (λ z. z ⊕ a) (plus_zero_right laws _ (times_below _ _))

  -- a step of Horner's rule
  pub value_step : (x : ℕ) (u : List ℕ) (a : ℕ) → a ⊕ x ⊗ value F x u ≡ value F x (u ++ (a ∷ []))
  value_step x u a = plus_comm a _ ∙ sym (value_push x u a)

  pub value_zeros : (x n : ℕ) → value F x (replicate n 0) ≡ 0
  value_zeros x zero = refl
  value_zeros x (suc n) = rw (times_zero_left laws, value_zeros x n) (plus_self 0)

  added_step : (a b p q r : ℕ) → (a ⊕ b) ⊗ p ⊕ (q ⊕ r) ≡ a ⊗ p ⊕ q ⊕ (b ⊗ p ⊕ r)
  added_step a b p q r = simp (distrib_right laws, plus_assoc, plus_comm, plus_left_comm laws)

  pub value_added : (x : ℕ) (p q : List ℕ) → length p ≡ length q → value F x (added F p q) ≡ value F x p ⊕ value F x q
  value_added x [] [] e = sym (plus_self 0)
  value_added x [] (b ∷ q) e = absurd (omega arith)
  value_added x (a ∷ p) [] e = absurd (omega arith)
  value_added x (a ∷ p) (b ∷ q) e =
      let l : length p ≡ length q = omega arith in
      rw (length_added F p q l, value_added x p q l) (added_step a b _ _ _ ∙ ap (λ n. a ⊗ power F x (length p) ⊕ value F x p ⊕ (b ⊗ power F x n ⊕ value F x q)) l)

  pub added_small : (p q : List ℕ) (k : ℕ) → get_or (added F p q) k 0 < elements
  added_small [] q k = omega arith
  added_small (a ∷ p) [] k = omega arith
  added_small (a ∷ p) (b ∷ q) zero = plus_below a b
  added_small (a ∷ p) (b ∷ q) (suc k) = added_small p q k

  advance_step : (x r m v y : ℕ) → x ⊗ v ⊕ 0 ⊕ (r ⊕ m) ⊗ (x ⊗ y) ≡ x ⊗ (r ⊗ y ⊕ v) ⊕ m ⊗ (x ⊗ y)
  advance_step x r m v y = rw (plus_zero_right laws (x ⊗ v) (times_below x v)) (simp (distributes, distrib_right laws, times_assoc, times_comm, times_left_comm laws, plus_assoc, plus_comm, plus_left_comm laws))

  -- one turn of the register, at a point where the row is the symbol fed back times x^n
  pub value_advanced : (x m : ℕ) (register row : List ℕ) → 0 < length register → length row ≡ length register
      → value F x row ≡ (get_or register 0 0 ⊕ m) ⊗ power F x (length register)
      → value F x (advanced F register row) ≡ x ⊗ value F x register ⊕ m ⊗ power F x (length register)
  value_advanced x m [] row h l e = absurd (omega arith)
  value_advanced x m (r ∷ rest) row h l e =
      let long : length (rest ++ (0 ∷ [])) ≡ length row = omega (arith, length-append rest (0 ∷ [])) in
      value_added x (rest ++ (0 ∷ [])) row long
      ∙ ap (λ z. z ⊕ value F x row) (value_push x rest 0)
      ∙ ap (λ z. x ⊗ value F x rest ⊕ 0 ⊕ z) e
      ∙ advance_step x r m _ _

  -- the register after one more symbol of the message
  pub value_fed : (x m : ℕ) (register row message : List ℕ) → 0 < length register → length row ≡ length register
      → value F x row ≡ (get_or register 0 0 ⊕ m) ⊗ power F x (length register)
      → value F x register ≡ value F x message ⊗ power F x (length register)
      → value F x (advanced F register row) ≡ value F x (message ++ (m ∷ [])) ⊗ power F x (length register)
  value_fed x m register row message h l e inv =
      value_advanced x m register row h l e
      ∙ ap (λ z. x ⊗ z ⊕ m ⊗ power F x (length register)) inv
      ∙ ap (λ z. z ⊕ m ⊗ power F x (length register)) (sym (times_assoc _ _ _))
      ∙ sym (distrib_right laws _ _ _)
      ∙ ap (λ z. z ⊗ power F x (length register)) (sym (value_push x message m))

  -- a message and its register
  pub value_whole : (x : ℕ) (message register : List ℕ) → value F x register ≡ value F x message ⊗ power F x (length register)
      → value F x (message ++ register) ≡ 0
  value_whole x message register e = value_append x message register ∙ ap (λ z. z ⊕ value F x register) (sym e) ∙ plus_self _

  pub sum_same_below : (f g : ℕ → ℕ) (n : ℕ) → ((i : ℕ) → i < n → f i ≡ g i) → sum F f (below n) ≡ sum F g (below n)
  sum_same_below f g zero e = refl
  sum_same_below f g (suc n) e =
      let here : f n ≡ g n = e n (omega arith) in
      let rest = sum_same_below f g n (λ i h. e i (omega arith)) in
      cc

  pub value_sum : (x : ℕ) (w : List ℕ) → sum F (λ i. coefficient w i ⊗ power F x i) (below (length w)) ≡ value F x w
  value_sum x [] = refl
  value_sum x (a ∷ w) =
      let top : suc (length w) - suc (length w) ≡ 0 = omega arith in
      let first : coefficient (a ∷ w) (length w) ≡ a = ap (λ n. get_or (a ∷ w) n 0) top in
      let rest = sum_same_below (λ i. coefficient (a ∷ w) i ⊗ power F x i) (λ i. coefficient w i ⊗ power F x i) (length w)
      (λ i h. let e : suc (length w) - suc i ≡ suc (length w - suc i) = omega arith in ap (λ n. get_or (a ∷ w) n 0 ⊗ power F x i) e) in
      ap (λ z. z ⊗ power F x (length w) ⊕ sum F (λ i. coefficient (a ∷ w) i ⊗ power F x i) (below (length w))) first
      ∙ ap (λ z. a ⊗ power F x (length w) ⊕ z) (rest ∙ value_sum x w)

  power_swapped : (i j : ℕ) → power F F.alpha (j * i) ≡ power F (power F F.alpha j) i
  power_swapped i j = let e : j * i ≡ i * j = omega arith in ap (power F F.alpha) e ∙ sym (power_power laws F.alpha j i)

  pub syndrome_value : (w : List ℕ) (j : ℕ) → syndrome F w j ≡ value F (power F F.alpha j) w
  syndrome_value w j =
      sum_same_below (λ i. coefficient w i ⊗ power F F.alpha (j * i)) (λ i. coefficient w i ⊗ power F (power F F.alpha j) i) (length w) (λ i h. ap (λ z. coefficient w i ⊗ z) (power_swapped i j))
      ∙ value_sum (power F F.alpha j) w

  push_step : (a x e y z : ℕ) → a ⊕ x ⊗ (e ⊕ z ⊗ y) ≡ a ⊕ x ⊗ e ⊕ z ⊗ (x ⊗ y)
  push_step a x e y z = simp (distributes, times_assoc, times_left_comm laws, plus_assoc)

  pub eval_push : (p : List ℕ) (a x : ℕ) → eval F (p ++ (a ∷ [])) x ≡ eval F p x ⊕ a ⊗ power F x (length p)
  eval_push [] a x = ap (λ z. a ⊕ z) (times_zero_right laws x) ∙ sym (reduced laws a 0) ∙ plus_comm _ _
  eval_push (b ∷ p) a x = ap (λ z. b ⊕ x ⊗ z) (eval_push p a x) ∙ push_step b x _ _ a

  monic_step : (a x e y : ℕ) → a ⊕ x ⊗ (e ⊕ y) ≡ a ⊕ x ⊗ e ⊕ x ⊗ y
  monic_step a x e y = simp (distributes, plus_assoc)

  pub eval_leading : (p : List ℕ) (x : ℕ) → eval_monic F p x ≡ eval F p x ⊕ power F x (length p)
  eval_leading [] x = sym (plus_zero_left laws 1 (omega arith))
  eval_leading (a ∷ p) x = ap (λ z. a ⊕ x ⊗ z) (eval_leading p x) ∙ monic_step a x _ _

  pub eval_low : (p : List ℕ) (x : ℕ) → eval F p x < elements
  eval_low [] x = omega arith
  eval_low (a ∷ p) x = plus_below _ _

  -- at a root, the coefficients below the leading one are worth the leading power
  pub eval_root : (p : List ℕ) (x : ℕ) → eval_monic F p x ≡ 0 → eval F p x ≡ power F x (length p)
  eval_root p x e = same_of_sum_zero laws _ _ (eval_low p x) (power_below laws x (length p)) (sym (eval_leading p x) ∙ e)

  multiple_step : (f a p e : ℕ) → (f ⊗ a) ⊗ p ⊕ f ⊗ e ≡ f ⊗ (e ⊕ a ⊗ p)
  multiple_step f a p e = simp (distributes, times_assoc, plus_comm)

  -- f times the first coefficients of g, read from the end of the row
  pub multiple_value : (x f : ℕ) (g row : List ℕ) (n : ℕ) → length g ≡ n → length row ≡ n → ((i : ℕ) → i < n → get_or row i 0 ≡ f ⊗ get_or g (n - 1 - i) 0)
      → (k : ℕ) → k ≤ n → value F x (drop (n - k) row) ≡ f ⊗ eval F (take k g) x
  multiple_value x f g row n lg lr e zero h =
      let none : n - 0 ≡ length row = omega arith in
      ap (value F x) (ap (λ m. drop m row) none ∙ drop-length row) ∙ sym (times_zero_right laws f)
  multiple_value x f g row n lg lr e (suc k) h =
      let i = n - suc k in
      let inside : i < length row = omega arith in
      let next : i + 1 ≡ n - k = omega arith in
      let mirrored : n - 1 - i ≡ k = omega arith in
      let here : get_or row i 0 ≡ f ⊗ get_or g k 0 = e i (omega arith) ∙ ap (λ m. f ⊗ get_or g m 0) mirrored in
      let hg : k < length g = omega arith in
      let long : length (drop (n - k) row) ≡ k = simp length-drop (omega arith) in
      let longer : length (take k g) ≡ k = length-take-le k g (omega arith) in
      ap (value F x) (drop_more row i 0 inside ∙ ap (λ m. get_or row i 0 ∷ drop m row) next)
      ∙ ap (λ m. get_or row i 0 ⊗ power F x m ⊕ value F x (drop (n - k) row)) long
      ∙ ap (λ z. z ⊗ power F x k ⊕ value F x (drop (n - k) row)) here
      ∙ ap (λ z. f ⊗ get_or g k 0 ⊗ power F x k ⊕ z) (multiple_value x f g row n lg lr e k (omega arith))
      ∙ multiple_step f (get_or g k 0) (power F x k) (eval F (take k g) x)
      ∙ ap (λ m. f ⊗ (eval F (take k g) x ⊕ get_or g k 0 ⊗ power F x m)) (sym longer)
      ∙ ap (λ z. f ⊗ z) (sym (eval_push (take k g) (get_or g k 0) x))
      ∙ ap (λ p. f ⊗ eval F p x) (sym (take_more g k 0 hg) ∙ ap (λ m. take m g) (add-one k))
