-- Nine moves of a scrambler at once. Each side keeps exclusive-or, so that it is enough to
-- compute both at the low nine and at the high six bits of a state. Assumes nothing.
use Rattle.std.proofs.Common.{◌≡◌, ℕ, zero, suc, ◌*◌, ◌/◌, ◌%◌, ◌^◌, ◌<◌, true, List, [], ◌∷◌, reverse, get_or, refl, sym, ◌∙◌, arith}
use lib.Bits.{bit_and, bit_xor, and_le_r, xor_lt}
use Rattle.blocks.specs.Bits.{bits, number}
use Rattle.lines.specs.Scramblers.{moved, state_after, next_bits, scrambler_mask}
use Rattle.lines.specs.declared.role.Role.{Role}
use Rattle.lines.specs.declared.role.Role.TheVariants.{Master, Slave}
use Rattle.lines.specs.Linear.{Linear, nothing, before, both, high, low, masked, raised, AgreeOnParts, agree, same_below, same_at}
use Rattle.lines.specs.Moves.{state_after_linear, next_bits_linear, mask_first}

-- ---- the bits fed back

abbrev fed_after : Role → ℕ → ℕ
fed_after role s = state_after role s 9 % 512

fed_after_linear : (role : Role) → Linear (fed_after role)
fed_after_linear role = before (state_after_linear role 9) (low 9)

abbrev master_taken : ℕ → ℕ
master_taken s = bit_xor (s / 64) (bit_and (s * 32 % 65536) 511)

taken_linear : Linear master_taken
taken_linear = both (high 6) (before (before (raised 5) (low 16)) (masked 9))

abbrev pub fed_master : ℕ → ℕ
fed_master s = bit_xor (bit_xor (master_taken s) (master_taken s / 16)) (master_taken s / 256)

abbrev pub fed_slave : ℕ → ℕ
fed_slave s = bit_xor (s / 64) (bit_and (s / 4) 511)

master_parts : AgreeOnParts fed_master (fed_after Master)
unfolding state_after moved
master_parts = (refl, refl)

pub master_fed : (s : ℕ) → s < 32768 → fed_master s ≡ state_after Master s 9 % 512
master_fed = agree (both (both taken_linear (before taken_linear (high 4))) (before taken_linear (high 8))) (fed_after_linear Master) master_parts

slave_parts : AgreeOnParts fed_slave (fed_after Slave)
unfolding state_after moved
slave_parts = (refl, refl)

pub slave_fed : (s : ℕ) → s < 32768 → fed_slave s ≡ state_after Slave s 9 % 512
slave_fed = agree (both (high 6) (before (high 2) (masked 9))) (fed_after_linear Slave) slave_parts

-- ---- the state

abbrev pub next_state : Role → ℕ → ℕ
next_state role s = bit_xor (bit_and s 63 * 512 % 65536) (state_after role s 9 % 512)

next_state_linear : (role : Role) → Linear (next_state role)
next_state_linear role = both (before (before (masked 6) (raised 9)) (low 16)) (fed_after_linear role)

next_state_parts : (role : Role) → AgreeOnParts (next_state role) (λ s. state_after role s 9)
unfolding state_after moved
next_state_parts Master = (refl, refl)
next_state_parts Slave = (refl, refl)

pub next_state_right : (role : Role) (s fed : ℕ) → s < 32768 → fed ≡ fed_after role s
    → bit_xor (bit_and s 63 * 512 % 65536) fed ≡ state_after role s 9
next_state_right role s fed bound e = rw e (agree (next_state_linear role) (state_after_linear role 9) (next_state_parts role) s bound)

-- ---- the mask

abbrev pub drawn_bits : Role → ℕ → ℕ
drawn_bits role s = bit_xor (bit_and s 1 * 256 % 65536) (state_after role s 9 % 512 / 2)

-- n bits in the other order
unfoldable backwards : ℕ → ℕ → ℕ
backwards zero x = 0
backwards (suc n) x = bit_xor (x % 2 * 2 ^ n) (backwards n (x / 2))

backwards_linear : (n : ℕ) → Linear (backwards n)
unfolding backwards
backwards_linear zero = nothing
backwards_linear (suc n) = both (before (low 1) (raised n)) (before (high 1) (backwards_linear n))

mask_parts : (role : Role) → AgreeOnParts (λ s. backwards 9 (drawn_bits role s)) (λ s. number (next_bits role s 9))
unfolding state_after moved backwards next_bits number
mask_parts Master = (refl, refl)
mask_parts Slave = (refl, refl)

drawn_linear : (role : Role) → Linear (drawn_bits role)
drawn_linear role = both (before (before (masked 1) (raised 8)) (low 16)) (before (fed_after_linear role) (high 1))

each_backwards : same_below (λ x. number (reverse (bits 9 x))) (backwards 9) 512 ≡ true
unfolding backwards bits number
each_backwards = refl

drawn_below : (x fed : ℕ) → fed < 512 → bit_xor (bit_and x 1 * 256 % 65536) (fed / 2) < 512
drawn_below x fed h =
    let b = and_le_r x 1 in
    xor_lt 9 (bit_and x 1 * 256 % 65536) (fed / 2) (omega arith) (omega arith)

pub mask_right : (role : Role) (s : ℕ) → s < 32768 → number (reverse (bits 9 (drawn_bits role s))) ≡ scrambler_mask role s 0
mask_right role s bound =
    same_at (λ x. number (reverse (bits 9 x))) (backwards 9) 512 each_backwards (drawn_bits role s) (drawn_below s (state_after role s 9 % 512) (omega arith))
    ∙ agree (before (drawn_linear role) (backwards_linear 9)) (next_bits_linear role 9) (mask_parts role) s bound
    ∙ sym (mask_first role s)

-- ---- nine bits turned around three at a time

abbrev three_turned : List ℕ
three_turned = 0 ∷ 4 ∷ 2 ∷ 6 ∷ 1 ∷ 5 ∷ 3 ∷ 7 ∷ []

abbrev pub turned_by_threes : ℕ → ℕ
turned_by_threes x = bit_xor (bit_xor (get_or three_turned (bit_and x 7) 0 * 64 % 65536) (get_or three_turned (bit_and (x / 8) 7) 0 * 8 % 65536)) (get_or three_turned (x / 64) 0)

each_turned : same_below turned_by_threes (λ x. number (reverse (bits 9 x))) 512 ≡ true
unfolding bits number
each_turned = refl

pub turned_right : (x : ℕ) → x < 512 → turned_by_threes x ≡ number (reverse (bits 9 x))
turned_right = same_at turned_by_threes (λ x. number (reverse (bits 9 x))) 512 each_turned
