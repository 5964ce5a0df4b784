-- Laws of a scrambler's states and bits. Assumes nothing.
use Rattle.std.specs.Prelude.{◌≡◌, ℕ, zero, suc, ◌+◌, ◌*◌, ◌/◌, ◌%◌, ◌^◌, ◌<◌, ◌⊎◌, bit_xor, refl}
use Rattle.std.proofs.Common.{sym, ap, ◌∙◌, inl, inr, zero-add, suc-add, pow-suc, eq-or-lt_of_le, arith, lit<}
use Rattle.std.proofs.lemmas.Nat.{xor_lt}
use Rattle.std.specs.Int.Bits.{xor_shifted}
use Rattle.blocks.specs.Bits.{number}
use Rattle.lines.specs.Scramblers.{tap, moved, state_after, next_bits, scrambler_mask, WorkedMasks}
use Rattle.lines.specs.declared.role.Role.{Role}
use Rattle.lines.specs.declared.role.Role.TheVariants.{Master, Slave}
use Rattle.lines.specs.Linear.{Linear, itself, nothing, same, before, both, high, low, raised}

-- ---- one move

fed : Role → ℕ → ℕ
fed role s = bit_xor (s / 16384 % 2) (s / tap role % 2)

fed_bit : (role : Role) (s : ℕ) → fed role s < 2
unfolding fed
fed_bit role s = xor_lt 1 (s / 16384 % 2) (s / tap role % 2) (omega arith) (omega arith)

moved_xor : (role : Role) (s : ℕ) → moved role s ≡ bit_xor (s % 16384 * 2) (fed role s)
unfolding moved fed
moved_xor role s =
    let e : 2 * s % 32768 ≡ s % 16384 * 2 = omega arith in
    ap (λ x. x + fed role s) e ∙ sym (xor_shifted (s % 16384) 1 (fed role s) (fed_bit role s))

fed_linear : (role : Role) → Linear (fed role)
unfolding fed
fed_linear Master = both (before (high 14) (low 1)) (before (high 3) (low 1))
fed_linear Slave = both (before (high 14) (low 1)) (before (high 10) (low 1))

pub moved_linear : (role : Role) → Linear (moved role)
moved_linear role = same (moved_xor role) (both (before (low 14) (raised 1)) (fed_linear role))

moved_below : (role : Role) (s : ℕ) → moved role s < 32768
unfolding moved fed
moved_below role s = let b : fed role s < 2 = fed_bit role s in omega arith

highest : (role : Role) → moved role 16384 ≡ 1
unfolding moved
highest Master = refl
highest Slave = refl

moved_live : (role : Role) (s : ℕ) → 0 < s → s < 32768 → 0 < moved role s
unfolding moved
moved_live role s above bound = go (eq-or-lt_of_le {n = 0} {m = 2 * s % 32768} (omega arith))
  where
    go : (0 ≡ 2 * s % 32768) ⊎ (0 < 2 * s % 32768) → 0 < moved role s
    go (inl e) =
        let d : 2 * s % 32768 ≡ s % 16384 * 2 = omega arith in
        let r : s % 16384 ≡ 0 = omega (arith, d, e) in
        let q : s / 16384 ≡ 1 = omega arith in
        let h : s ≡ 16384 = omega arith in
        rw h (rw (highest role) (lit< tt))
    go (inr h) = omega arith

-- ---- n moves

pub state_after_linear : (role : Role) (n : ℕ) → Linear (λ s. state_after role s n)
unfolding state_after
state_after_linear role zero = itself
state_after_linear role (suc n) = before (state_after_linear role n) (moved_linear role)

pub state_after_state : (role : Role) (s n : ℕ) → 0 < s → s < 32768 → (0 < state_after role s n) × (state_after role s n < 32768)
unfolding state_after
state_after_state role s zero above bound = (above, bound)
state_after_state role s (suc n) above bound =
    let r = state_after_state role s n above bound in
    (moved_live role (state_after role s n) r.0 r.1, moved_below role (state_after role s n))

pub state_after_sum : (role : Role) (s m n : ℕ) → state_after role (state_after role s m) n ≡ state_after role s (n + m)
unfolding state_after
state_after_sum role s m zero = ap (state_after role s) (sym (zero-add m))
state_after_sum role s m (suc n) = ap (moved role) (state_after_sum role s m n) ∙ ap (state_after role s) (sym (suc-add n m))

-- ---- the bits that come

pub next_bits_linear : (role : Role) (n : ℕ) → Linear (λ s. number (next_bits role s n))
unfolding next_bits number
next_bits_linear role zero = nothing
next_bits_linear role (suc n) =
    same (λ s. let x = number (next_bits role (moved role s) n) in
    let e : s % 2 + 2 * x ≡ x * 2 + s % 2 = omega arith in
    e ∙ sym (xor_shifted x 1 (s % 2) (omega arith)))
    (both (before (before (moved_linear role) (next_bits_linear role n)) (raised 1)) (low 1))

next_bits_below : (role : Role) (n s : ℕ) → number (next_bits role s n) < 2 ^ n
unfolding next_bits number
next_bits_below role zero s = lit< tt
next_bits_below role (suc n) s =
    let h = next_bits_below role n (moved role s) in
    let e = pow-suc 2 n in
    omega arith

-- ---- masks

pub mask_below : (role : Role) (s k : ℕ) → scrambler_mask role s k < 512
unfolding scrambler_mask
mask_below role s k = next_bits_below role 9 (state_after role s (9 * k))

pub mask_first : (role : Role) (s : ℕ) → scrambler_mask role s 0 ≡ number (next_bits role s 9)
unfolding scrambler_mask state_after
mask_first role s = refl

-- nine moves on, the sequence is the same without its first mask
pub mask_later : (role : Role) (s k : ℕ) → scrambler_mask role (state_after role s 9) k ≡ scrambler_mask role s (k + 1)
unfolding scrambler_mask
mask_later role s k =
    let e : 9 * k + 9 ≡ 9 * (k + 1) = omega arith in
    ap (λ t. number (next_bits role t 9)) (state_after_sum role s 9 (9 * k) ∙ ap (state_after role s) e)

pub worked_masks : WorkedMasks
unfolding scrambler_mask state_after next_bits moved number
worked_masks = record { master_first = refl; master_second = refl; slave_first = refl }
