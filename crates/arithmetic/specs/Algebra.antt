-- The numbers below 512 under sum and product: each but 0 is a power of α, and a product of powers is a power. Assumes nothing.
use Rattle.std.specs.Prelude.{◌≡◌, ℕ, zero, suc, ◌+◌, ◌*◌, ◌/◌, ◌%◌, ◌<◌, ◌⊎◌, bit_xor, refl}
use Rattle.std.proofs.Common.{sym, ap, ap₂, ◌∙◌, inl, inr, mod-lt, mod-eq_of_lt, mul-zero, suc-mul, add_comm, mul-one, zero-mul, zero-add, suc-add, arith, lit<}
use Rattle.std.proofs.Math.Nat.{mod-mod}
use Rattle.std.specs.Int.Bits.{xor_assoc}
use Rattle.std.proofs.lemmas.Nat.{xor_lt}
use Rattle.arithmetic.specs.Laws.{power}
use Rattle.arithmetic.specs.Polynomials.{twice, gathered, sum, product, polynomials}
use Rattle.arithmetic.specs.Linear.{shifted, shifted_below, shifted_sum, shifted_add, shifted_zero, gathered_below, gathered_shifted}
use Rattle.arithmetic.specs.Computed.{gathered_one, log, log_right}

Power : ℕ → Type 0
Power a = (n : ℕ) × (a ≡ shifted n 1)

known : (a : ℕ) → a < 512 → (a ≡ 0) ⊎ Power a
unfolding Power
known zero h = inl refl
known (suc a) h = inr (log (suc a), sym (log_right (suc a) (omega arith) h))

-- ---- below 512

pub by_power : (n b : ℕ) → b < 512 → gathered 9 (shifted n 1) b ≡ shifted n b
by_power n b h = gathered_shifted n 9 1 b ∙ ap (shifted n) (gathered_one b h)

pub by_zero : (n b : ℕ) → gathered n 0 b ≡ 0
unfolding gathered twice
by_zero zero b = refl
by_zero (suc n) b = ap₂ bit_xor (mul-zero (b % 2)) (by_zero n (b / 2))

pub times_zero : (a : ℕ) → a < 512 → gathered 9 a 0 ≡ 0
unfolding Power
times_zero a h =
    elim (known a h) [ inl e ↦ rw e (by_zero 9 0) | inr p ↦ rw p.1 (by_power p.0 0 (lit< tt) ∙ shifted_zero p.0) ]

comm : (a b : ℕ) → a < 512 → b < 512 → gathered 9 a b ≡ gathered 9 b a
unfolding Power
comm a b ha hb =
    elim (known a ha) [
      | inl e ↦ rw e (by_zero 9 b ∙ sym (times_zero b hb))
      | inr p ↦ elim (known b hb) [
        | inl e ↦ rw e (times_zero a ha ∙ sym (by_zero 9 a))
        | inr q ↦
            let m = p.0 in
            let n = q.0 in
            let l : gathered 9 (shifted m 1) (shifted n 1) ≡ shifted (m + n) 1 = by_power m (shifted n 1) (shifted_below n 1 (lit< tt)) ∙ shifted_add m n 1 in
            let r : gathered 9 (shifted n 1) (shifted m 1) ≡ shifted (n + m) 1 = by_power n (shifted m 1) (shifted_below m 1 (lit< tt)) ∙ shifted_add n m 1 in
            ap₂ (gathered 9) p.1 q.1 ∙ l ∙ ap (λ k. shifted k 1) (add_comm m n) ∙ sym r ∙ sym (ap₂ (gathered 9) q.1 p.1)
      ]
    ]

assoc : (a b c : ℕ) → a < 512 → b < 512 → gathered 9 (gathered 9 a b) c ≡ gathered 9 a (gathered 9 b c)
unfolding Power
assoc a b c ha hb =
    elim (known a ha) [
      | inl e ↦ rw e (ap (λ x. gathered 9 x c) (by_zero 9 b) ∙ by_zero 9 c ∙ sym (by_zero 9 (gathered 9 b c)))
      | inr p ↦ ap (λ x. gathered 9 (gathered 9 x b) c) p.1 ∙ at_power p.0 ∙ sym (ap (λ x. gathered 9 x (gathered 9 b c)) p.1)
    ]
  where
    at_power : (n : ℕ) → gathered 9 (gathered 9 (shifted n 1) b) c ≡ gathered 9 (shifted n 1) (gathered 9 b c)
    at_power n =
        ap (λ x. gathered 9 x c) (by_power n b hb) ∙ gathered_shifted n 9 b c ∙ sym (by_power n (gathered 9 b c) (gathered_below 9 b c hb))

distrib : (a b c : ℕ) → a < 512 → b < 512 → c < 512 → gathered 9 a (bit_xor b c) ≡ bit_xor (gathered 9 a b) (gathered 9 a c)
unfolding Power
distrib a b c ha hb hc =
    elim (known a ha) [
      | inl e ↦ rw e (by_zero 9 (bit_xor b c) ∙ sym (ap₂ bit_xor (by_zero 9 b) (by_zero 9 c)))
      | inr p ↦ ap (λ x. gathered 9 x (bit_xor b c)) p.1
          ∙ by_power p.0 (bit_xor b c) (xor_lt 9 b c hb hc) ∙ shifted_sum p.0 b c
          ∙ sym (ap₂ bit_xor (by_power p.0 b hb) (by_power p.0 c hc))
          ∙ sym (ap (λ x. bit_xor (gathered 9 x b) (gathered 9 x c)) p.1)
    ]

one : (a : ℕ) → a < 512 → gathered 9 a 1 ≡ a
one a h = comm a 1 h (lit< tt) ∙ gathered_one a h

-- ---- at every number

pub low : (a : ℕ) → a % 512 < 512
low a = mod-lt a (lit< tt)

pub sum_below : (a b : ℕ) → sum a b < 512
unfolding sum
sum_below a b = xor_lt 9 (a % 512) (b % 512) (low a) (low b)

pub product_below : (a b : ℕ) → product a b < 512
unfolding product
product_below a b = gathered_below 9 (a % 512) (b % 512) (low a)

pub sum_assoc : (a b c : ℕ) → sum (sum a b) c ≡ sum a (sum b c)
unfolding sum
sum_assoc a b c =
    ap (λ x. bit_xor x (c % 512)) (mod-eq_of_lt (sum_below a b)) ∙ xor_assoc (a % 512) (b % 512) (c % 512)
    ∙ sym (ap (bit_xor (a % 512)) (mod-eq_of_lt (sum_below b c)))

pub product_assoc : (a b c : ℕ) → product (product a b) c ≡ product a (product b c)
unfolding product
product_assoc a b c =
    ap (λ x. gathered 9 x (c % 512)) (mod-eq_of_lt (product_below a b)) ∙ assoc (a % 512) (b % 512) (c % 512) (low a) (low b)
    ∙ sym (ap (gathered 9 (a % 512)) (mod-eq_of_lt (product_below b c)))

pub distributes : (a b c : ℕ) → product a (sum b c) ≡ sum (product a b) (product a c)
unfolding product sum
distributes a b c =
    ap (gathered 9 (a % 512)) (mod-eq_of_lt (sum_below b c)) ∙ distrib (a % 512) (b % 512) (c % 512) (low a) (low b) (low c)
    ∙ sym (ap₂ bit_xor (mod-eq_of_lt (product_below a b)) (mod-eq_of_lt (product_below a c)))

pub product_one : (a : ℕ) → product a 1 ≡ a % 512
unfolding product
product_one a = one (a % 512) (low a)

pub product_comm : (a b : ℕ) → product a b ≡ product b a
unfolding product
product_comm a b = comm (a % 512) (b % 512) (low a) (low b)

-- ---- powers

pub product_powers : (m n : ℕ) → product (shifted m 1) (shifted n 1) ≡ shifted (m + n) 1
unfolding product
product_powers m n =
    ap₂ (gathered 9) (mod-eq_of_lt (shifted_below m 1 (lit< tt))) (mod-eq_of_lt (shifted_below n 1 (lit< tt)))
    ∙ by_power m (shifted n 1) (shifted_below n 1 (lit< tt)) ∙ shifted_add m n 1

pub power_shifted : (n k : ℕ) → power polynomials (shifted n 1) k ≡ shifted (k * n) 1
power_shifted n zero = ap (λ m. shifted m 1) (sym (zero-mul n))
power_shifted n (suc k) =
    ap (product (shifted n 1)) (power_shifted n k) ∙ product_powers n (k * n)
    ∙ ap (λ m. shifted m 1) (add_comm n (k * n) ∙ sym (suc-mul k n))

round : shifted 511 1 ≡ 1
unfolding twice
round = refl

pub rounds : (n : ℕ) → shifted (n * 511) 1 ≡ 1
rounds zero = refl
rounds (suc n) =
    ap (λ m. shifted m 1) (suc-mul n 511 ∙ add_comm (n * 511) 511) ∙ sym (shifted_add 511 (n * 511) 1)
    ∙ ap (shifted 511) (rounds n) ∙ round

pub product_low : (a b : ℕ) → product a b ≡ product (a % 512) b
unfolding product
product_low a b = ap (λ x. gathered 9 x (b % 512)) (sym (mod-mod a 512))

pub power_low : (a k : ℕ) → power polynomials a k ≡ power polynomials (a % 512) k
power_low a zero = refl
power_low a (suc k) = product_low a (power polynomials a k) ∙ ap (product (a % 512)) (power_low a k)

pub power_two : (k : ℕ) → power polynomials 2 k ≡ shifted k 1
unfolding twice
power_two k = power_shifted 1 k ∙ ap (λ m. shifted m 1) (mul-one k)

-- ---- a product with a number is a power of it more

power_below : (a n : ℕ) → power polynomials a n < 512
power_below a zero = lit< tt
power_below a (suc n) = product_below a (power polynomials a n)

pub power_add : (a m n : ℕ) → product (power polynomials a m) (power polynomials a n) ≡ power polynomials a (m + n)
power_add a zero n =
    product_comm 1 (power polynomials a n) ∙ product_one (power polynomials a n) ∙ mod-eq_of_lt (power_below a n)
    ∙ ap (power polynomials a) (sym (zero-add n))
power_add a (suc m) n =
    product_assoc a (power polynomials a m) (power polynomials a n) ∙ ap (product a) (power_add a m n)
    ∙ ap (power polynomials a) (sym (suc-add m n))
