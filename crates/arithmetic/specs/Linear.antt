-- Doubling, and so a product by a power of α, keeps sums. Assumes nothing.
use Rattle.std.specs.Prelude.{◌≡◌, ℕ, zero, suc, ◌+◌, ◌*◌, ◌/◌, ◌%◌, ◌<◌, Bool, true, ◌⊎◌, ◌==◌, bit_xor, refl}
use Rattle.std.proofs.Common.{sym, ap, ap₂, ◌∙◌, inl, inr, add-zero, zero-mul, one-mul, mod-lt, suc-add, zero-add, arith, lit<}
use Rattle.std.proofs.Math.Nat.{mod-mod}
use Rattle.std.proofs.lemmas.Bool.{agree_below, agree_below_at, eqb-true}
use Rattle.std.proofs.lemmas.Nat.{xor_block, xor_mod, xor_shr, xor_comm, xor_lt}
use Rattle.std.specs.Int.Bits.{xor_assoc, xor_zero_l}
use Rattle.arithmetic.specs.Polynomials.{reduced, twice, gathered}

-- ---- sums

pub swap : (a b c d : ℕ) → bit_xor (bit_xor a b) (bit_xor c d) ≡ bit_xor (bit_xor a c) (bit_xor b d)
swap a b c d =
    xor_assoc a b (bit_xor c d)
    ∙ ap (bit_xor a) (sym (xor_assoc b c d) ∙ ap (λ x. bit_xor x d) (xor_comm b c) ∙ xor_assoc c b d)
    ∙ sym (xor_assoc a c (bit_xor b d))

doubled_sum : (a b : ℕ) → bit_xor a b * 2 ≡ bit_xor (a * 2) (b * 2)
doubled_sum a b =
    sym (add-zero (bit_xor a b * 2)) ∙ sym (xor_block 1 a b 0 0 (lit< tt) (lit< tt))
    ∙ ap₂ bit_xor (add-zero (a * 2)) (add-zero (b * 2))

bit : (n : ℕ) → n < 2 → (n ≡ 0) ⊎ (n ≡ 1)
bit zero h = inl refl
bit (suc zero) h = inr refl
bit (suc (suc n)) h = absurd (omega arith)

carried_sum : (p q : ℕ) → p < 2 → q < 2 → bit_xor p q * 17 ≡ bit_xor (p * 17) (q * 17)
carried_sum zero q hp hq = sym (xor_zero_l (q * 17))
carried_sum (suc zero) zero hp hq = refl
carried_sum (suc zero) (suc zero) hp hq = refl
carried_sum (suc zero) (suc (suc q)) hp hq = absurd (omega arith)
carried_sum (suc (suc p)) q hp hq = absurd (omega arith)

-- ---- doubling: the bits but the highest move up, and the highest comes back as x⁴ + 1

abbrev split : ℕ → ℕ
split a = bit_xor (a % 256 * 2) (a / 256 % 2 * 17)

splits : ℕ → Bool
splits a = twice a == split a

all_split : agree_below splits (λ n. true) 512 ≡ true
unfolding splits twice
all_split = refl

twice_low : (a : ℕ) → twice a ≡ twice (a % 512)
unfolding twice
twice_low a = ap (λ n. reduced (n * 2)) (sym (mod-mod a 512))

pub twice_split : (a : ℕ) → twice a ≡ bit_xor (a % 256 * 2) (a / 256 % 2 * 17)
unfolding splits
twice_split a =
    twice_low a ∙ eqb-true (twice (a % 512)) (split (a % 512)) (agree_below_at splits (λ n. true) 512 (a % 512) all_split (mod-lt a (lit< tt)))
    ∙ ap₂ (λ m n. bit_xor (m * 2) (n * 17)) low high
  where
    low : a % 512 % 256 ≡ a % 256
    low = omega arith

    high : a % 512 / 256 % 2 ≡ a / 256 % 2
    high = omega arith

pub twice_below : (a : ℕ) → twice a < 512
twice_below a = rw (twice_split a) (xor_lt 9 (a % 256 * 2) (a / 256 % 2 * 17) (omega arith) (omega arith))

pub twice_sum : (a b : ℕ) → twice (bit_xor a b) ≡ bit_xor (twice a) (twice b)
twice_sum a b =
    twice_split (bit_xor a b)
    ∙ ap₂ bit_xor
    (ap (λ n. n * 2) (xor_mod a b 8) ∙ doubled_sum (a % 256) (b % 256))
    (ap (λ n. n % 2 * 17) (xor_shr a b 8) ∙ ap (λ n. n * 17) (xor_mod (a / 256) (b / 256) 1)
    ∙ carried_sum (a / 256 % 2) (b / 256 % 2) (omega arith) (omega arith))
    ∙ swap (a % 256 * 2) (b % 256 * 2) (a / 256 % 2 * 17) (b / 256 % 2 * 17)
    ∙ sym (ap₂ bit_xor (twice_split a) (twice_split b))

-- n times doubled
abbrev pub shifted : ℕ → ℕ → ℕ
shifted zero a = a
shifted (suc n) a = twice (shifted n a)

pub shifted_below : (n a : ℕ) → a < 512 → shifted n a < 512
shifted_below zero a h = h
shifted_below (suc n) a h = twice_below (shifted n a)

pub shifted_sum : (n a b : ℕ) → shifted n (bit_xor a b) ≡ bit_xor (shifted n a) (shifted n b)
shifted_sum zero a b = refl
shifted_sum (suc n) a b = ap twice (shifted_sum n a b) ∙ twice_sum (shifted n a) (shifted n b)

pub shifted_add : (m n a : ℕ) → shifted m (shifted n a) ≡ shifted (m + n) a
shifted_add zero n a = ap (λ k. shifted k a) (sym (zero-add n))
shifted_add (suc m) n a = ap twice (shifted_add m n a) ∙ ap (λ k. shifted k a) (sym (suc-add m n))

pub shifted_zero : (n : ℕ) → shifted n 0 ≡ 0
unfolding twice
shifted_zero zero = refl
shifted_zero (suc n) = ap twice (shifted_zero n)

-- ---- the product

pub chosen_below : (p a : ℕ) → a < 512 → p % 2 * a < 512
chosen_below p a h =
    elim (bit (p % 2) (omega arith)) [ inl e ↦ rw e (omega (arith, zero-mul a)) | inr e ↦ rw e (omega (arith, one-mul a)) ]

chosen_twice : (p a : ℕ) → p % 2 * twice a ≡ twice (p % 2 * a)
unfolding twice
chosen_twice p a =
    elim (bit (p % 2) (omega arith)) [ inl e ↦ rw e (zero-mul (twice a) ∙ sym (ap twice (zero-mul a))) | inr e ↦ rw e (one-mul (twice a) ∙ sym (ap twice (one-mul a))) ]

pub gathered_below : (n a b : ℕ) → a < 512 → gathered n a b < 512
unfolding gathered
gathered_below zero a b h = lit< tt
gathered_below (suc n) a b h =
    xor_lt 9 (b % 2 * a) (gathered n (twice a) (b / 2)) (chosen_below b a h) (gathered_below n (twice a) (b / 2) (twice_below a))

gathered_twice : (n a b : ℕ) → gathered n (twice a) b ≡ twice (gathered n a b)
unfolding gathered
gathered_twice zero a b = sym (shifted_zero 1)
gathered_twice (suc n) a b =
    ap₂ bit_xor (chosen_twice b a) (gathered_twice n (twice a) (b / 2)) ∙ sym (twice_sum (b % 2 * a) (gathered n (twice a) (b / 2)))

pub gathered_shifted : (k n a b : ℕ) → gathered n (shifted k a) b ≡ shifted k (gathered n a b)
gathered_shifted zero n a b = refl
gathered_shifted (suc k) n a b = gathered_twice n (shifted k a) b ∙ ap twice (gathered_shifted k n a b)
