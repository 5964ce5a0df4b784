-- The inverse is the power 510, and the laws hold. Assumes nothing.
use Rattle.std.specs.Prelude.{◌≡◌, ℕ, zero, suc, ◌*◌, ◌%◌, ◌<◌, ◌≤◌, Bool, true, false, cond, T, ◌==◌, ◌≢◌, nat_eq, refl}
use Rattle.std.proofs.Common.{sym, ap, ap₂, ◌∙◌, subst, inl, inr, mod-eq_of_lt, not-suc-le-zero, le_of_suc-le-suc, eq-or-lt_of_le, arith, eqb→eq, lit<, lit≤}
use Rattle.std.proofs.Math.Dec.{eqb_refl}
use Rattle.std.proofs.lemmas.Nat.{xor_comm}
use Rattle.std.specs.Int.Bits.{xor_zero_r, xor_self}
use Rattle.arithmetic.specs.Laws.{power, Lawful}
use Rattle.arithmetic.specs.Polynomials.{sum, product, undoing, inverse, polynomials}
use Rattle.arithmetic.specs.Linear.{shifted}
use Rattle.arithmetic.specs.Computed.{log, log_right, log_of}
use Rattle.arithmetic.specs.Algebra.{low, by_zero, sum_below, product_below, sum_assoc, product_assoc, distributes, product_one, product_comm, product_powers, power_shifted, rounds, product_low, power_low, power_two}

-- ---- the power 510

unfoldable pub lifted : ℕ → ℕ
lifted a = power polynomials a 510

pub lifted_shifted : (n : ℕ) → lifted (shifted n 1) ≡ shifted (510 * n) 1
unfolding lifted
lifted_shifted n = power_shifted n 510

lifted_low : (a : ℕ) → lifted a ≡ lifted (a % 512)
unfolding lifted
lifted_low a = power_low a 510

lifted_below : (a : ℕ) → lifted a < 512
unfolding lifted
lifted_below a = product_below a (power polynomials a 509)

-- a nonzero number is a power of α, and its power 510 is what is left to whole rounds
lifted_right : (a : ℕ) → 0 < a % 512 → product a (lifted a) ≡ 1
lifted_right a h =
    let n = log (a % 512) in
    let e : a % 512 ≡ shifted n 1 = sym (log_right (a % 512) h (low a)) in
    product_low a (lifted a) ∙ ap₂ product e (lifted_low a ∙ ap lifted e ∙ lifted_shifted n)
    ∙ product_powers n (510 * n) ∙ ap (λ m. shifted m 1) (omega arith) ∙ rounds n

pub nothing_times : (a b : ℕ) → a % 512 ≡ 0 → product a b ≡ 0
unfolding product
nothing_times a b e = product_low a b ∙ ap (λ x. product x b) e ∙ by_zero 9 (b % 512)

lifted_nothing : (a : ℕ) → a % 512 ≡ 0 → lifted a ≡ 0
unfolding lifted
lifted_nothing a e = nothing_times a (power polynomials a 509) e

-- ---- the number that undoes another

undoing_found : (n a : ℕ) → ((b : ℕ) → b < n → product a b ≡ 1 → product a (undoing n a) ≡ 1)
    → (t : Bool) → (product a n == 1) ≡ t → (b : ℕ) → b < suc n → product a b ≡ 1 → product a (cond t n (undoing n a)) ≡ 1
undoing_found n a before true e b h p = eqb→eq (product a n) 1 (subst T (sym e) tt)
undoing_found n a before false e b h p =
    elim (eq-or-lt_of_le (le_of_suc-le-suc h)) [
      | inl same ↦ absurd (subst T (ap (λ x. nat_eq x 1) (sym (ap (product a) (sym same) ∙ p)) ∙ e) (eqb_refl 1))
      | inr l ↦ before b l p
    ]

undoing_right : (n a b : ℕ) → b < n → product a b ≡ 1 → product a (undoing n a) ≡ 1
unfolding undoing
undoing_right zero a b h p = absurd (not-suc-le-zero h)
undoing_right (suc n) a b h p = undoing_found n a (undoing_right n a) (product a n == 1) refl b h p

undoing_below : (n a : ℕ) → n ≤ 512 → undoing n a < 512
unfolding undoing
undoing_below zero a h = lit< tt
undoing_below (suc n) a h =
    elim (product a n == 1) as (λ t. cond t n (undoing n a) < 512) [ true ↦ h | false ↦ undoing_below n a (omega arith) ]

undoing_none : (n a : ℕ) → a % 512 ≡ 0 → undoing n a ≡ 0
unfolding undoing
undoing_none zero a e = refl
undoing_none (suc n) a e = ap (λ p. cond (p == 1) n (undoing n a)) (nothing_times a n e) ∙ undoing_none n a e

-- two numbers that undo a third are equal
only : (a b c : ℕ) → b < 512 → c < 512 → product a b ≡ 1 → product a c ≡ 1 → b ≡ c
only a b c hb hc p q =
    sym (mod-eq_of_lt hb) ∙ sym (product_one b) ∙ ap (product b) (sym q) ∙ sym (product_assoc b a c)
    ∙ ap (λ x. product x c) (product_comm b a ∙ p) ∙ product_comm 1 c ∙ product_one c ∙ mod-eq_of_lt hc

pub inverse_below : (a : ℕ) → inverse a < 512
unfolding inverse
inverse_below a = undoing_below 512 a (lit≤ tt)

pub inverse_right : (a : ℕ) → 0 < a % 512 → product a (inverse a) ≡ 1
unfolding inverse
inverse_right a h = undoing_right 512 a (lifted a) (lifted_below a) (lifted_right a h)

pub inverse_nothing : (a : ℕ) → a % 512 ≡ 0 → inverse a ≡ 0
unfolding inverse
inverse_nothing a e = undoing_none 512 a e

pub inverse_lifted : (a : ℕ) → inverse a ≡ lifted a
inverse_lifted a = go (a % 512) refl
  where
    go : (m : ℕ) → a % 512 ≡ m → inverse a ≡ lifted a
    go zero e = inverse_nothing a e ∙ sym (lifted_nothing a e)
    go (suc m) e =
        let h : 0 < a % 512 = omega arith in
        only a (inverse a) (lifted a) (inverse_below a) (lifted_below a) (inverse_right a h) (lifted_right a h)

pub inverse_low : (a : ℕ) → inverse a ≡ inverse (a % 512)
inverse_low a = inverse_lifted a ∙ lifted_low a ∙ sym (inverse_lifted (a % 512))

pub inverse_shifted : (n : ℕ) → inverse (shifted n 1) ≡ shifted (510 * n) 1
inverse_shifted n = inverse_lifted (shifted n 1) ∙ lifted_shifted n

-- what is equal to an answer is below 512
pub product_bound : (a b r : ℕ) → r ≡ product a b → r < 512
product_bound a b r e = rw e (product_below a b)

pub inverse_bound : (a r : ℕ) → r ≡ inverse a → r < 512
inverse_bound a r e = rw e (inverse_below a)

-- ---- the laws

differ : (i j : ℕ) → i < j → j < 450 → power polynomials 2 i ≢ power polynomials 2 j
differ i j h l e =
    let same : i ≡ j = sym (log_of i (omega arith)) ∙ ap log (sym (power_two i) ∙ e ∙ power_two j) ∙ log_of j (omega arith) in
    omega arith

pub polynomials_lawful : Lawful polynomials
unfolding sum
polynomials_lawful = record {
  plus_below = sum_below;
  times_below = product_below;
  inverse_below = inverse_below;
  alpha_below = lit< tt;
  plus_assoc = sum_assoc;
  plus_comm = λ a b. xor_comm (a % 512) (b % 512);
  plus_zero = λ a. xor_zero_r (a % 512);
  plus_self = λ a. xor_self (a % 512);
  times_assoc = product_assoc;
  times_comm = product_comm;
  times_one = product_one;
  distributes = distributes;
  inverse_zero = inverse_nothing 0 refl;
  inverse_modulo = inverse_low;
  inverse_right = inverse_right;
  powers_differ = differ;
}
