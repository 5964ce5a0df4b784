-- One turn of each loop of the arithmetic that shifts. Assumes nothing.
use Rattle.std.proofs.Common.{◌≡◌, ℕ, suc, ◌+◌, ◌-◌, ◌*◌, ◌/◌, ◌%◌, ◌^◌, ◌<◌, ◌≤◌, ap, ◌∙◌, ap₂, arith, pow_pos, pow-add}
use lib.Bits.{bit_xor, xor_assoc, xor_zero_r}
use Rattle.arithmetic.specs.Laws.{power}
use Rattle.arithmetic.specs.Polynomials.{twice, gathered, product, polynomials}
use Rattle.arithmetic.specs.Algebra.{power_add}

pub gathered_step : (i t a b : ℕ) → i < 9
    → bit_xor (bit_xor t (b % 2 * a)) (gathered (9 - (i + 1)) (twice a) (b / 2)) ≡ bit_xor t (gathered (9 - i) a b)
unfolding gathered
gathered_step i t a b h =
    xor_assoc t (b % 2 * a) (gathered (9 - (i + 1)) (twice a) (b / 2)) ∙ ap (λ n. bit_xor t (gathered n a b)) left
  where
    left : suc (9 - (i + 1)) ≡ 9 - i
    left = omega arith

pub gathered_end : (i t a b : ℕ) → 9 ≤ i → bit_xor t (gathered (9 - i) a b) ≡ t
unfolding gathered
gathered_end i t a b h = ap (λ n. bit_xor t (gathered n a b)) none ∙ xor_zero_r t
  where
    none : 9 - i ≡ 0
    none = omega arith

pub square_step : (a i s r : ℕ) → s ≡ power polynomials a (2 ^ i) → r ≡ product s s → r ≡ power polynomials a (2 ^ (i + 1))
square_step a i s r e answer = answer ∙ ap₂ product e e ∙ power_add a (2 ^ i) (2 ^ i) ∙ ap (power polynomials a) double
  where
    double : 2 ^ i + 2 ^ i ≡ 2 ^ (i + 1)
    double = omega (arith, pow-add 2 i 1)

pub total_step : (a i t s r : ℕ) → t ≡ power polynomials a (2 ^ i * 2 - 2) → s ≡ power polynomials a (2 ^ (i + 1)) → r ≡ product t s
    → r ≡ power polynomials a (2 ^ (i + 1) * 2 - 2)
total_step a i t s r e f answer = answer ∙ ap₂ product e f ∙ power_add a (2 ^ i * 2 - 2) (2 ^ (i + 1)) ∙ ap (power polynomials a) double
  where
    double : (2 ^ i * 2 - 2) + 2 ^ (i + 1) ≡ 2 ^ (i + 1) * 2 - 2
    double = omega (arith, pow-add 2 i 1, pow_pos i)
