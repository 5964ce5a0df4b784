-- In how many places two words differ. Assumes nothing.
use mir.Val.{bool_byte}
use Rattle.std.proofs.Common.{◌≡◌, ℕ, zero, suc, ◌+◌, ◌-◌, ◌<◌, ◌≤◌, Bool, true, false, cond, not, eqb, ◌≢◌, List, [], ◌∷◌, length, get_or, take, drop, filter, sym, refl, ap, ◌∙◌, subst, arith, eq-eqb, eqb-true}
use native.Mathlib.Decide.{ℕ_discrete}
use borrow.Author.Tests.{eqb-false, not-true, not-false}
use Rattle.std.specs.List.{AllByRecursion}
use Rattle.std.proofs.lemmas.List.{drop_more}
use Rattle.code.specs.Words.{coefficient, below, distance}

-- whether two words differ in the coefficient i
abbrev pub differs : List ℕ → List ℕ → ℕ → Bool
differs u v i = not (eqb (coefficient u i) (coefficient v i))

pub same_at : (u v : List ℕ) (i : ℕ) → differs u v i ≡ false → coefficient u i ≡ coefficient v i
same_at u v i e = eqb-true _ _ (not-false _ e)

pub other_at : (u v : List ℕ) (i : ℕ) → differs u v i ≡ true → coefficient u i ≢ coefficient v i
other_at u v i e z = eqb-false _ _ (not-true _ e) z

pub all_below : (P : ℕ → Type 0) (n : ℕ) → ((i : ℕ) → i < n → P i) → AllByRecursion P (below n)
all_below P zero f = tt
all_below P (suc n) f = (f n (omega arith), all_below P n (λ i h. f i (omega arith)))

pub below_all : (P : ℕ → Type 0) (n i : ℕ) → i < n → AllByRecursion P (below n) → P i
below_all P zero i h a = absurd (omega arith)
below_all P (suc n) i h a = elim (ℕ_discrete i n) [ yes e ↦ subst P (sym e) a.0 | no k ↦ below_all P n i (omega arith) a.1 ]

pub kept_same : (t t' : ℕ → Bool) (n : ℕ) → ((i : ℕ) → i < n → t i ≡ t' i) → filter t (below n) ≡ filter t' (below n)
kept_same t t' zero e = refl
kept_same t t' (suc n) e =
    ap (λ b. cond b (n ∷ filter t (below n)) (filter t (below n))) (e n (omega arith))
    ∙ ap (λ ks. cond (t' n) (n ∷ ks) ks) (kept_same t t' n (λ i h. e i (omega arith)))

-- the coefficients below the first are those of the rest
rest_coefficient : (a : ℕ) (w : List ℕ) (i : ℕ) → i < length w → coefficient (a ∷ w) i ≡ coefficient w i
rest_coefficient a w i h = let e : suc (length w) - suc i ≡ suc (length w - suc i) = omega arith in ap (λ n. get_or (a ∷ w) n 0) e

first_coefficient : (a : ℕ) (w : List ℕ) → coefficient (a ∷ w) (length w) ≡ a
first_coefficient a w = let e : suc (length w) - suc (length w) ≡ 0 = omega arith in ap (λ n. get_or (a ∷ w) n 0) e

-- the distance counts the coefficients that differ
pub distance_places : (u v : List ℕ) → length u ≡ length v → distance u v ≡ length (filter (differs u v) (below (length u)))
unfolding distance
distance_places [] [] l = refl
distance_places [] (b ∷ v) l = absurd (omega arith)
distance_places (a ∷ u) [] l = absurd (omega arith)
distance_places (a ∷ u) (b ∷ v) l =
    let long : length u ≡ length v = omega arith in
    let head : differs (a ∷ u) (b ∷ v) (length u) ≡ not (eqb a b) =
    ap (λ z. not (eqb z (coefficient (b ∷ v) (length u)))) (first_coefficient a u) ∙ ap (λ z. not (eqb a z)) (ap (coefficient (b ∷ v)) long ∙ first_coefficient b v) in
    let tail : filter (differs (a ∷ u) (b ∷ v)) (below (length u)) ≡ filter (differs u v) (below (length u)) =
    kept_same _ _ (length u) (λ i h. ap (λ z. not (eqb z (coefficient (b ∷ v) i))) (rest_coefficient a u i h) ∙ ap (λ z. not (eqb (coefficient u i) z)) (rest_coefficient b v i (omega arith))) in
    count (eqb a b) (distance u v) (filter (differs u v) (below (length u))) (distance_places u v long)
    ∙ ap (λ ks. length (cond (not (eqb a b)) (length u ∷ ks) ks)) (sym tail)
    ∙ ap (λ t. length (cond t (length u ∷ filter (differs (a ∷ u) (b ∷ v)) (below (length u))) (filter (differs (a ∷ u) (b ∷ v)) (below (length u))))) (sym head)
  where
    count : (t : Bool) (n : ℕ) (ks : List ℕ) → n ≡ length ks → cond t 0 1 + n ≡ length (cond (not t) (length u ∷ ks) ks)
    count true n ks e = omega arith
    count false n ks e = omega arith

pub distance_most : (u v : List ℕ) → length u ≡ length v → distance u v ≤ length u
unfolding distance
distance_most [] v l = omega arith
distance_most (a ∷ u) [] l = absurd (omega arith)
distance_most (a ∷ u) (b ∷ v) l = count (eqb a b) (distance_most u v (omega arith))
  where
    count : (t : Bool) → distance u v ≤ length u → cond t 0 1 + distance u v ≤ suc (length u)
    count true h = omega arith
    count false h = omega arith

-- a word differs from itself nowhere
pub distance_self : (w : List ℕ) → distance w w ≡ 0
unfolding distance
distance_self [] = refl
distance_self (a ∷ w) = let e : eqb a a ≡ true = eq-eqb a a refl in rw e (omega (arith, distance_self w))

-- words with the same first symbols differ in the others at most
pub same_front : (u v : List ℕ) (m : ℕ) → length u ≡ length v → m ≤ length u → take m u ≡ take m v → distance u v ≤ length u - m
unfolding distance
same_front u v zero l h e = let most = distance_most u v l in omega arith
same_front [] v (suc m) l h e = absurd (omega arith)
same_front (a ∷ u) [] (suc m) l h e = absurd (omega arith)
same_front (a ∷ u) (b ∷ v) (suc m) l h e =
    let head : a ≡ b = cc in
    let tail : take m u ≡ take m v = cc in
    let t : eqb a b ≡ true = eq-eqb a b head in
    rw t (omega (arith, same_front u v m (omega arith) (omega arith) tail))

-- a pair that is not alike counts as one
pub one_at_most : (b : Bool) → bool_byte b ≤ 1
one_at_most true = omega arith
one_at_most false = omega arith

pub counted : (x y : ℕ) (u v : List ℕ) → bool_byte (not (eqb x y)) + distance u v ≡ distance (x ∷ u) (y ∷ v)
unfolding distance
counted x y u v = go (eqb x y) refl
  where
    go : (b : Bool) → eqb x y ≡ b → bool_byte (not (eqb x y)) + distance u v ≡ distance (x ∷ u) (y ∷ v)
    go true e = rw e refl
    go false e = rw e refl

-- one more place looked at, counted or not
pub count_more : (u v : List ℕ) (i : ℕ) → i < length u → length u ≡ length v → distance (drop i u) (drop i v) ≡ cond (eqb (get_or u i 0) (get_or v i 0)) 0 1 + distance (drop (i + 1) u) (drop (i + 1) v)
unfolding distance
count_more u v i h l = let k : i < length v = omega arith in rw (drop_more u i 0 h, drop_more v i 0 k) refl
