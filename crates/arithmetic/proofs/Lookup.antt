-- What tables that follow their rule hold, and products and inverses by them. Assumes nothing.
use Rattle.std.proofs.Common.{◌≡◌, ℕ, zero, suc, ◌+◌, ◌-◌, ◌*◌, ◌%◌, ◌<◌, ◌≤◌, Bool, true, eqb, List, get_or, sym, ap, ◌∙◌, ap₂, add-one, arith}
use Rattle.std.proofs.lemmas.Bool.{agree_below, agree_below_at, eqb-true}
use Rattle.arithmetic.specs.Laws.{power}
use Rattle.arithmetic.specs.Polynomials.{twice, product, inverse, polynomials}
use Rattle.arithmetic.specs.Tables.{Tables}
use Rattle.arithmetic.specs.Linear.{shifted, shifted_add}
use Rattle.arithmetic.specs.Computed.{log, log_below, log_right}
use Rattle.arithmetic.specs.Algebra.{power_two, power_add, rounds, product_low, product_comm}
use Rattle.arithmetic.specs.Inverses.{nothing_times, inverse_low, inverse_shifted}

-- ---- the rule as a test at each entry

unfoldable pub doubled : List ℕ → ℕ → Bool
doubled powers k = eqb (get_or powers (suc k) 0) (twice (get_or powers k 0))

unfoldable pub undone : List ℕ → List ℕ → ℕ → Bool
undone powers logarithms k = eqb (get_or logarithms (get_or powers k 0) 0) k

pub tables_follow : (powers logarithms : List ℕ) → get_or powers 0 0 ≡ 1 → get_or powers 511 0 ≡ 1 → get_or logarithms 0 0 ≡ 511
    → agree_below (doubled powers) (λ k. true) 511 ≡ true → agree_below (undone powers logarithms) (λ k. true) 511 ≡ true → Tables powers logarithms
unfolding doubled undone
tables_follow p l first last none doubles undoes = record {
  starts = first;
  doubles = λ k h.
      ap (λ n. get_or p n 0) (add-one k)
      ∙ eqb-true (get_or p (suc k) 0) (twice (get_or p k 0)) (agree_below_at (doubled p) (λ k. true) 511 k doubles h);
  comes_round = last;
  undone = λ k h. eqb-true (get_or l (get_or p k 0) 0) k (agree_below_at (undone p l) (λ k. true) 511 k undoes h);
  none_of_zero = none;
}

-- ---- what stands in the tables

power_at : (powers logarithms : List ℕ) → Tables powers logarithms → (k : ℕ) → k ≤ 511 → get_or powers k 0 ≡ shifted k 1
power_at p l t zero h = t.starts
power_at p l t (suc k) h =
    ap (λ n. get_or p n 0) (sym (add-one k)) ∙ t.doubles k (omega arith) ∙ ap twice (power_at p l t k (omega arith))

pub power_stands : (powers logarithms : List ℕ) → Tables powers logarithms → (k : ℕ) → k ≤ 511 → get_or powers k 0 ≡ power polynomials 2 k
power_stands p l t k h = power_at p l t k h ∙ sym (power_two k)

log_stands : (powers logarithms : List ℕ) → Tables powers logarithms → (a : ℕ) → 0 < a → a < 512 → get_or logarithms a 0 ≡ log a
log_stands p l t a z h =
    let s = log_below a z h in
    ap (λ n. get_or l n 0) (sym (log_right a z h) ∙ sym (power_at p l t (log a) (omega arith))) ∙ t.undone (log a) s

-- an entry is at most 511, of 0 too
pub logarithm_at_most : (powers logarithms : List ℕ) → Tables powers logarithms → (a : ℕ) → a < 512 → get_or logarithms a 0 ≤ 511
logarithm_at_most p l t zero h = omega (arith, t.none_of_zero)
logarithm_at_most p l t (suc a) h = omega (arith, log_stands p l t (suc a) (omega arith) h, log_below (suc a) (omega arith) h)

pub logarithm_right : (powers logarithms : List ℕ) → Tables powers logarithms → (a : ℕ) → a < 512 → 0 < a
    → power polynomials 2 (get_or logarithms a 0) ≡ a
logarithm_right p l t a h z = ap (power polynomials 2) (log_stands p l t a z h) ∙ power_two (log a) ∙ log_right a z h

-- ---- products and inverses by logarithms

pub whole_round : (n : ℕ) → 511 ≤ n → power polynomials 2 (n - 511) ≡ power polynomials 2 n
whole_round n h =
    power_two (n - 511) ∙ ap (shifted (n - 511)) (sym (rounds 1)) ∙ shifted_add (n - 511) 511 1
    ∙ ap (λ k. shifted k 1) whole ∙ sym (power_two n)
  where
    whole : (n - 511) + 511 ≡ n
    whole = omega arith

both_low : (a b : ℕ) → product a b ≡ product (a % 512) (b % 512)
both_low a b = product_low a b ∙ product_comm (a % 512) b ∙ product_low b (a % 512) ∙ product_comm (b % 512) (a % 512)

pub by_logarithms : (a b m n : ℕ) → power polynomials 2 m ≡ a % 512 → power polynomials 2 n ≡ b % 512
    → power polynomials 2 (m + n) ≡ product a b
by_logarithms a b m n p q = sym (power_add 2 m n) ∙ ap₂ product p q ∙ sym (both_low a b)

pub none_left : (a b : ℕ) → a % 512 ≡ 0 → 0 ≡ product a b
none_left a b e = sym (nothing_times a b e)

pub none_right : (a b : ℕ) → b % 512 ≡ 0 → 0 ≡ product a b
none_right a b e = none_left b a e ∙ product_comm b a

-- 510 n and 511 - n differ by whole rounds
pub inverse_by_logarithm : (a n : ℕ) → n ≤ 511 → power polynomials 2 n ≡ a % 512 → power polynomials 2 (511 - n) ≡ inverse a
inverse_by_logarithm a n h e =
    power_two (511 - n) ∙ ap (shifted (511 - n)) (sym (rounds n)) ∙ shifted_add (511 - n) (n * 511) 1
    ∙ ap (λ k. shifted k 1) whole ∙ sym (shifted_add (510 * n) 511 1) ∙ ap (shifted (510 * n)) (rounds 1)
    ∙ sym (inverse_shifted n) ∙ ap inverse (sym (power_two n) ∙ e) ∙ sym (inverse_low a)
  where
    whole : (511 - n) + n * 511 ≡ 510 * n + 511
    whole = omega arith
