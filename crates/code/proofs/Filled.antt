-- An array that is filled from the front, and a list read from the front or cut into chunks. Assumes nothing.
use Rattle.std.proofs.Common.{◌≡◌, Iter, ℕ, zero, suc, ◌+◌, ◌*◌, ◌<◌, take, drop, length-drop, ◌≤◌, ◌≢◌, List, [], ◌∷◌, ◌++◌, fold, max, length, get_or, set, sym, ap, ◌∙◌, subst, mul-zero, arith, get_or-set_same, get_or-set_other, below_more}
use mathlib.Core.Logic.{◌⊎◌, inl, inr}
use native.Mathlib.Decide.{ℕ_discrete}
use denote.Param.Members.{Mut}
use Rattle.std.specs.Fn.{Called}
use Rattle.std.specs.Simd.{first_chunks}
use Rattle.std.proofs.lemmas.List.{drop_more, drop-drop, length_push}
use Rattle.std.specs.Array.{IsFromFnResultFrom}

-- one more element
pub filled_more : {X : Type 0} (P : ℕ → X → Type 0) (xs : List X) (d x : X) (n : ℕ) → n < length xs → ((i : ℕ) → i < n → P i (get_or xs i d)) → P n x
    → (i : ℕ) → i < n + 1 → P i (get_or (set xs n x) i d)
filled_more P xs d x n h before here = below_more _ _
    (λ i l. let ne : i ≢ n = omega arith in subst (P i) (sym (get_or-set_other xs n i x d ne)) (before i l))
    (subst (P n) (sym (get_or-set_same xs n x d h)) here)

-- an array that `from_fn` makes by a closure that keeps what it holds
pub made_with : {F B : Type 0} (g : Mut F (ℕ × Unit {0}) B) (P : ℕ → B → Type 0) (f : F) (ys : List B) (d : B) (i n : ℕ)
    → IsFromFnResultFrom g f ys i n → ((j : ℕ) (y : B) (q : F) → Called g f (j, tt) y q → (q ≡ f) × P j y) → (k : ℕ) → i ≤ k → k < i + n → P k (get_or ys k d)
made_with g P f ys d i zero m s k l b = absurd (omega arith)
made_with {F} g P f ys d i (suc n) m s k l b =
    let one = s i m.1 m.0 m.3 in
    let R : F → Type 0 = λ q. IsFromFnResultFrom g q ys (i + 1) n in
    elim (ℕ_discrete k i) [
      | yes e ↦ subst (λ j. P j (get_or ys j d)) (sym e) (subst (P i) (sym (m.2.1 d)) one.1)
      | no ne ↦ made_with g P f ys d (i + 1) n (subst R one.0 m.4) s k (omega arith) (omega arith)
    ]

-- the largest of a list and a number is below n
all_below_largest : (xs : List ℕ) (m n : ℕ) → fold (λ most x. max x most) m xs < n → (m < n) × ((k : ℕ) → k < length xs → get_or xs k 0 < n)
all_below_largest [] m n h = (h, λ k l. absurd (omega arith))
all_below_largest (x ∷ xs) m n h =
    let rest = all_below_largest xs (max x m) n h in
    (omega (arith, rest.0), go rest.0 rest.1)
  where
    go : max x m < n → ((k : ℕ) → k < length xs → get_or xs k 0 < n) → (k : ℕ) → k < length (x ∷ xs) → get_or (x ∷ xs) k 0 < n
    go b r zero l = omega arith
    go b r (suc k) l = r k (omega arith)

pub largest_below : (xs : List ℕ) (m n : ℕ) → fold (λ most x. max x most) m xs < n → (k : ℕ) → k < length xs → get_or xs k 0 < n
largest_below xs m n h = (all_below_largest xs m n h).1

-- what an iterator has left begins with the element at its place
pub left_more : {X : Type 0} {left rest : List X} {x : X} (xs : List X) (n : ℕ) (d : X) → left ≡ x ∷ rest → left ≡ drop n xs → (n < length xs) × (x ≡ get_or xs n d) × (rest ≡ drop (n + 1) xs)
left_more xs n d s e =
    let some : n < length xs = omega (arith, ap length (sym s ∙ e), length-drop n xs) in
    let both = sym s ∙ e ∙ drop_more xs n d some in
    (some, ap (λ q. get_or q 0 d) both, ap (drop 1) both)

-- two iterators side by side, over lists of one length, that have come to the place i
pub record Beside {X Y : Type 0} (xs : List X) (ys : List Y) (left_xs : List X) (left_ys : List Y) (i : ℕ) : Type 0 where
  pub first : left_xs ≡ drop i xs
  pub second : left_ys ≡ drop i ys
  pub inside : i ≤ length xs

-- both go on by one
pub beside_next : {X Y Z : Type 0} {xs rest_xs left_xs : List X} {ys rest_ys left_ys : List Y} {x : X} {y : Y} (seen : List Z) (z : Z)
    → Beside xs ys left_xs left_ys (length seen) → left_xs ≡ x ∷ rest_xs → left_ys ≡ y ∷ rest_ys → Beside xs ys rest_xs rest_ys (length (seen ++ (z ∷ [])))
beside_next {xs} {ys} {x} {y} seen z b ex ey =
    let more = length_push seen z in
    let next_x = left_more xs (length seen) x ex b.first in
    let next_y = left_more ys (length seen) y ey b.second in
    record { first = next_x.2 ∙ ap (λ n. drop n xs) (sym more); second = next_y.2 ∙ ap (λ n. drop n ys) (sym more); inside = omega (arith, next_x.0) }

-- they end where the lists do
pub beside_done : {X Y : Type 0} {xs : List X} {ys : List Y} {a : Iter X} {b : Iter Y} {i : ℕ} → Beside xs ys a.rest.now b.rest.now i
    → ((x : Iter X) × ((length a.rest.now ≡ 0) × (x ≡ a))) ⊎ ((y : Iter Y) × ((length b.rest.now ≡ 0) × (y ≡ b))) → length ys ≡ length xs → i ≡ length xs
beside_done {xs} {ys} {i} s ended l = elim ended [
  | inl e ↦ omega (arith, e.1.0, s.inside, ap length s.first, length-drop i xs)
  | inr e ↦ omega (arith, e.1.0, s.inside, ap length s.second, length-drop i ys)
]

-- chunk k of the first n
pub chunk_at : {X : Type 0} (size n : ℕ) (xs : List X) (k : ℕ) → k < n → get_or (first_chunks size n xs) k [] ≡ take size (drop (size * k) xs)
chunk_at size zero xs k h = absurd (omega arith)
chunk_at size (suc n) xs zero h = ap (λ m. take size (drop m xs)) (sym (mul-zero size))
chunk_at size (suc n) xs (suc k) h =
    let far : size + size * k ≡ size * suc k = omega arith in
    chunk_at size n (drop size xs) k (omega arith) ∙ ap (take size) (drop-drop (size * k) size xs ∙ ap (λ m. drop m xs) far)
