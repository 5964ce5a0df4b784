-- The masks of a scrambler, one bit at a time. Assumes nothing.
use Rattle.std.specs.Prelude.{◌≡◌, ℕ, zero, suc, ◌+◌, ◌*◌, ◌/◌, ◌%◌, Bool, ◌&&◌, List, [], ◌∷◌, bit_xor, nat_lt}
use Rattle.blocks.specs.Bits.{number}
use Rattle.lines.specs.declared.role.Role.{Role}
use Rattle.lines.specs.declared.role.Role.TheVariants.{Master, Slave}

-- a state from 1 to 32,767
abbrev pub is_state : ℕ → Bool
is_state s = nat_lt 0 s && nat_lt s 32768

-- the weight of the bit that is fed back together with the bit of weight 16,384
abbrev pub tap : Role → ℕ
tap Master = 8
tap Slave = 1024

-- the state one bit later: moved up by one place, the bit fed back at weight 1
unfoldable pub moved : Role → ℕ → ℕ
moved role s = 2 * s % 32768 + bit_xor (s / 16384 % 2) (s / tap role % 2)

-- the state n bits later
unfoldable pub state_after : Role → ℕ → ℕ → ℕ
state_after role s zero = s
state_after role s (suc n) = moved role (state_after role s n)

-- the next n bits: each is the weight-1 bit of the state, taken before the state moves
unfoldable pub next_bits : Role → ℕ → ℕ → List ℕ
next_bits role s zero = []
next_bits role s (suc n) = s % 2 ∷ next_bits role (moved role s) n

-- mask k of the sequence: the nine bits from state 9k on, weight 1 first
unfoldable pub scrambler_mask : Role → ℕ → ℕ → ℕ
scrambler_mask role s k = number (next_bits role (state_after role s (9 * k)) 9)

abbrev pub silent_mask : ℕ → ℕ
silent_mask k = 0

-- agreement of two streams: mask for mask the same
abbrev pub StreamsAgree : (ℕ → ℕ) → (ℕ → ℕ) → Type 0
StreamsAgree ours theirs = (k : ℕ) → ours k ≡ theirs k

-- worked values: the first two masks of a master at state 1, the first of a slave at state 1
pub record WorkedMasks : Type 0 where
  pub master_first : scrambler_mask Master 1 0 ≡ 273
  pub master_second : scrambler_mask Master 1 1 ≡ 200
  pub slave_first : scrambler_mask Slave 1 0 ≡ 1
