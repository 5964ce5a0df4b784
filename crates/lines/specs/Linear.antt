-- Functions that keep exclusive-or. Two of them that agree on the low nine and on the high
-- six of fifteen bits agree on all fifteen. Assumes nothing.
use Rattle.std.specs.Prelude.{◌≡◌, ℕ, ◌+◌, ◌-◌, ◌*◌, ◌/◌, ◌%◌, ◌^◌, ◌<◌, Bool, true, bit_and, bit_xor, nat_eq, refl}
use Rattle.std.proofs.Common.{sym, ap, ap₂, ◌∙◌, add-zero, arith, pow_pos}
use Rattle.std.proofs.lemmas.Bool.{agree_below, agree_below_at, eqb-true}
use Rattle.std.proofs.lemmas.Nat.{and_mask, xor_block, xor_mod, xor_shr, xor_comm}
use Rattle.std.specs.Int.Bits.{xor_shifted, xor_assoc}

pub record Linear (f : ℕ → ℕ) : Type 0 where
  pub keeps : (a b : ℕ) → f (bit_xor a b) ≡ bit_xor (f a) (f b)

-- as in arithmetic: neither crate stands on the other
swap : (a b c d : ℕ) → bit_xor (bit_xor a b) (bit_xor c d) ≡ bit_xor (bit_xor a c) (bit_xor b d)
swap a b c d =
    xor_assoc a b (bit_xor c d)
    ∙ ap (bit_xor a) (sym (xor_assoc b c d) ∙ ap (λ x. bit_xor x d) (xor_comm b c) ∙ xor_assoc c b d)
    ∙ sym (xor_assoc a c (bit_xor b d))

pub itself : Linear (λ a. a)
itself = record { keeps = λ a b. refl }

pub nothing : Linear (λ a. 0)
nothing = record { keeps = λ a b. refl }

pub same : {f g : ℕ → ℕ} → ((a : ℕ) → f a ≡ g a) → Linear g → Linear f
same e l = record { keeps = λ a b. e (bit_xor a b) ∙ l.keeps a b ∙ sym (ap₂ bit_xor (e a) (e b)) }

pub before : {f g : ℕ → ℕ} → Linear f → Linear g → Linear (λ a. g (f a))
before {f} {g} l m = record { keeps = λ a b. ap g (l.keeps a b) ∙ m.keeps (f a) (f b) }

pub both : {f g : ℕ → ℕ} → Linear f → Linear g → Linear (λ a. bit_xor (f a) (g a))
both {f} {g} l m = record { keeps = λ a b. ap₂ bit_xor (l.keeps a b) (m.keeps a b) ∙ swap (f a) (f b) (g a) (g b) }

pub high : (k : ℕ) → Linear (λ a. a / 2 ^ k)
high k = record { keeps = λ a b. xor_shr a b k }

pub low : (k : ℕ) → Linear (λ a. a % 2 ^ k)
low k = record { keeps = λ a b. xor_mod a b k }

pub masked : (k : ℕ) → Linear (λ a. bit_and a (2 ^ k - 1))
masked k = same (λ a. and_mask a k) (low k)

pub raised : (k : ℕ) → Linear (λ a. a * 2 ^ k)
raised k = record {
  keeps = λ a b.
      sym (add-zero (bit_xor a b * 2 ^ k)) ∙ sym (xor_block k a b 0 0 (pow_pos k) (pow_pos k))
      ∙ ap₂ bit_xor (add-zero (a * 2 ^ k)) (add-zero (b * 2 ^ k));
}

-- ---- two functions compared at each number below n, which computes at a written-out n

abbrev pub same_below : (ℕ → ℕ) → (ℕ → ℕ) → ℕ → Bool
same_below f g n = agree_below (λ k. nat_eq (f k) (g k)) (λ k. true) n

pub same_at : (f g : ℕ → ℕ) (n : ℕ) → same_below f g n ≡ true → (k : ℕ) → k < n → f k ≡ g k
same_at f g n e k h = eqb-true (f k) (g k) (agree_below_at (λ k. nat_eq (f k) (g k)) (λ k. true) n k e h)

-- ---- agreement

-- the fifteen bits of a number, the high six beside the low nine
parted : (s : ℕ) → s ≡ bit_xor (s / 512 * 512) (s % 512)
parted s = let e : s ≡ s / 512 * 512 + s % 512 = omega arith in e ∙ sym (xor_shifted (s / 512) 9 (s % 512) (omega arith))

abbrev pub AgreeOnParts : (ℕ → ℕ) → (ℕ → ℕ) → Type 0
AgreeOnParts f g = (same_below f g 512 ≡ true) × (same_below (λ h. f (h * 512)) (λ h. g (h * 512)) 64 ≡ true)

pub agree : {f g : ℕ → ℕ} → Linear f → Linear g → AgreeOnParts f g → (s : ℕ) → s < 32768 → f s ≡ g s
agree {f} {g} l m (lows, highs) s bound =
    let h = s / 512 in
    let r = s % 512 in
    let eh : f (h * 512) ≡ g (h * 512) = same_at (λ h. f (h * 512)) (λ h. g (h * 512)) 64 highs h (omega arith) in
    let er : f r ≡ g r = same_at f g 512 lows r (omega arith) in
    ap f (parted s) ∙ l.keeps (h * 512) r ∙ ap₂ bit_xor eh er ∙ sym (m.keeps (h * 512) r) ∙ sym (ap g (parted s))
