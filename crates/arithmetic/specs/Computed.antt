-- What is computed at each of the 512 elements: each but 0 is a power of α. Assumes nothing.
use Rattle.std.specs.Prelude.{◌≡◌, ℕ, zero, suc, ◌+◌, ◌<◌, Bool, true, false, T, List, [], ◌∷◌, length, ◌==◌, nat_lt, slice_index, refl}
use Rattle.std.proofs.Common.{sym, ap, ◌∙◌, subst, le_of_suc-le-suc, not-suc-le-zero, arith, eqb→eq}
use Rattle.arithmetic.specs.Polynomials.{twice, gathered}
use Rattle.std.proofs.lemmas.Bool.{agree_below, agree_below_at, eqb-true, ltb-true}
use Rattle.arithmetic.specs.Linear.{shifted, shifted_add}

-- ---- the powers of α, and the place of a number among them

unfoldable pub iterated : ℕ → ℕ → List ℕ
iterated zero x = []
iterated (suc n) x = x ∷ iterated n (twice x)

abbrev found : Bool → ℕ → ℕ
found true r = 0
found false r = suc r

unfoldable pub place : List ℕ → ℕ → ℕ
place [] a = 0
place (x ∷ xs) a = let r = place xs a in found (x == a) r

pub iterated_at : (n x k : ℕ) → k < n → slice_index (iterated n x) k ≡ shifted k x
unfolding iterated
iterated_at zero x k h = absurd (not-suc-le-zero h)
iterated_at (suc n) x zero h = refl
iterated_at (suc n) x (suc k) h =
    iterated_at n (twice x) k (le_of_suc-le-suc h) ∙ shifted_add k 1 x ∙ (let e : k + 1 ≡ suc k = omega arith in ap (λ m. shifted m x) e)

place_step : (xs : List ℕ) (x a : ℕ) → (place xs a < length xs → slice_index xs (place xs a) ≡ a) → (b : Bool) → (x == a) ≡ b
    → found b (place xs a) < suc (length xs) → slice_index (x ∷ xs) (found b (place xs a)) ≡ a
place_step xs x a rest true e h = eqb→eq x a (subst T (sym e) tt)
place_step xs x a rest false e h = rest (le_of_suc-le-suc h)

-- what stands at its own place
pub place_at : (xs : List ℕ) (a : ℕ) → place xs a < length xs → slice_index xs (place xs a) ≡ a
unfolding place
place_at [] a h = absurd (not-suc-le-zero h)
place_at (x ∷ xs) a h = place_step xs x a (place_at xs a) (x == a) refl h

-- ---- the tests

unit_product : ℕ → Bool
unit_product b = gathered 9 1 b == b

unit_products : agree_below unit_product (λ n. true) 512 ≡ true
unfolding unit_product gathered twice
unit_products = refl

pub gathered_one : (b : ℕ) → b < 512 → gathered 9 1 b ≡ b
unfolding unit_product
gathered_one b h = eqb-true (gathered 9 1 b) b (agree_below_at unit_product (λ n. true) 512 b unit_products h)

unfoldable pub powers : List ℕ
powers = iterated 511 1

has_place : List ℕ → ℕ → Bool
has_place xs a = nat_lt (place xs (suc a)) 511

have_places : agree_below (has_place powers) (λ n. true) 511 ≡ true
unfolding has_place place powers iterated twice
have_places = refl

comes_once : List ℕ → ℕ → Bool
comes_once xs k = place xs (slice_index xs k) == k

come_once : agree_below (comes_once powers) (λ n. true) 511 ≡ true
unfolding comes_once place powers iterated twice
come_once = refl

powers_length : length powers ≡ 511
unfolding powers iterated twice
powers_length = refl

-- the logarithm of a
unfoldable pub log : ℕ → ℕ
log a = place powers a

pub power_at : (k : ℕ) → k < 511 → slice_index powers k ≡ shifted k 1
unfolding powers
power_at k h = iterated_at 511 1 k h

pub log_below : (a : ℕ) → 0 < a → a < 512 → log a < 511
unfolding has_place log
log_below zero h l = absurd (omega arith)
log_below (suc a) h l = ltb-true _ _ (agree_below_at (has_place powers) (λ n. true) 511 a have_places (omega arith))

pub log_right : (a : ℕ) → 0 < a → a < 512 → shifted (log a) 1 ≡ a
unfolding log
log_right a h l =
    let b = log_below a h l in
    sym (power_at (log a) b) ∙ place_at powers a (subst (λ n. log a < n) (sym powers_length) b)

pub log_of : (k : ℕ) → k < 511 → log (shifted k 1) ≡ k
unfolding comes_once log
log_of k h =
    ap log (sym (power_at k h)) ∙ eqb-true (log (slice_index powers k)) k (agree_below_at (comes_once powers) (λ n. true) 511 k come_once h)
