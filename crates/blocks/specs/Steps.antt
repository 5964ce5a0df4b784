-- The same by octets, as the code goes: each payload octet from its neighbours.
use Rattle.std.specs.Prelude.{ℕ, zero, suc, ◌+◌, ◌*◌, ◌/◌, ◌%◌, Bool, cond, not, ◌&&◌, ◌||◌, List, [], ◌∷◌, Some, None, Ok, Err, Option, Result, ◌==◌, nat_le, nat_lt, slice_index}
use Rattle.blocks.specs.Characters.{is_control}
use Rattle.blocks.specs.Blocks.{pointer}
use Rattle.blocks.specs.Numbers.{number_of}
use Rattle.blocks.specs.declared.character.Character.{Character}
use Rattle.blocks.specs.declared.faults.BlockFault.{BlockFault}
use Rattle.blocks.specs.declared.faults.BlockFault.TheVariants.{InvalidPointer, ReservedCode}
use Rattle.blocks.specs.declared.ahead.Ahead.{Ahead}
use Rattle.blocks.specs.declared.ahead.Ahead.TheVariants.{Pointer, Control, Nothing}

-- three bits in the other order
abbrev pub turned : ℕ → ℕ
turned t = 4 * (t % 2) + 2 * (t / 2 % 2) + t / 4

-- the three high bits of a payload octet, where a control is still to come
abbrev pub top : ℕ → ℕ
top c = cond (is_control c) (turned (c % 8)) (c % 8)

-- a payload octet from the character before, the pointer and its own character
abbrev pub octet : ℕ → Option ℕ → ℕ → ℕ
octet before None c = c
octet before (Some p) c = cond (is_control before) p (before / 8) + 32 * top c

unfoldable pub line : ℕ → ℕ → List ℕ → List ℕ
line before n [] = []
line before n (c ∷ cs) = octet before (pointer n (c ∷ cs)) c ∷ line c (n + 1) cs

abbrev pub is_character : ℕ → Bool
is_character c = nat_lt c 259 || c == 261

-- one octet read: at the control, or before it
abbrev pub control_read : ℕ → ℕ → ℕ → Result (ℕ × Ahead) BlockFault
control_read q k c = cond (is_character c) (Ok (c, cond (nat_lt q 16) Nothing Pointer)) (Err (ReservedCode k))

abbrev pub read_at : ℕ → ℕ → ℕ → ℕ → Result (ℕ × Ahead) BlockFault
read_at q k b next = cond (q % 16 == k) (control_read q k (256 + turned (b / 32))) (Ok (b / 32 + 8 * (next % 32), Control q))

abbrev pub valid : ℕ → ℕ → Bool
valid k q = nat_le k (q % 16) && (nat_lt (q % 16) 10 && not (q == 25))

abbrev pub stepped : Ahead → ℕ → ℕ → ℕ → Result (ℕ × Ahead) BlockFault
stepped Nothing k b next = Ok (b, Nothing)
stepped (Control q) k b next = read_at q k b next
stepped Pointer k b next = cond (valid k (b % 32)) (read_at (b % 32) k b next) (Err (InvalidPointer k))

abbrev pub before_all : ℕ → Result (List ℕ) BlockFault → Result (List ℕ) BlockFault
before_all c (Ok cs) = Ok (c ∷ cs)
before_all c (Err e) = Err e

abbrev pub onward : Result (ℕ × Ahead) BlockFault → (Ahead → Result (List ℕ) BlockFault) → Result (List ℕ) BlockFault
onward (Ok r) f = before_all r.0 (f r.1)
onward (Err e) f = Err e

-- what is waited for at octet 0, by the header
abbrev pub started : ℕ → Result Ahead BlockFault
started zero = Ok Nothing
started (suc zero) = Ok Pointer
started (suc (suc h)) = Err (InvalidPointer zero)

-- what a payload reads as, from octet k on
unfoldable pub reading : Ahead → ℕ → List ℕ → Result (List ℕ) BlockFault
reading a k [] = Ok []
reading a k (b ∷ bs) = onward (stepped a k b (slice_index bs 0)) (λ after. reading after (k + 1) bs)

-- the same with a character as a value
abbrev pub by_number : Result (Character × Ahead) BlockFault → Result (ℕ × Ahead) BlockFault
by_number (Ok r) = Ok (number_of r.0, r.1)
by_number (Err e) = Err e
