-- What a cycle stands for. Assumes nothing.
use Rattle.std.specs.Prelude.{◌≡◌, ℕ, ◌/◌, ◌%◌, ◌<◌, Bool, true, false, cond, List, length, Some, None, Option, ◌==◌, ◌≢◌, slice_index, slice_index_or}
use Rattle.refusal.specs.Refusals.{refusal}
use Rattle.refusal.specs.declared.kinds.Layer.{Layer}
use Rattle.refusal.specs.declared.kinds.Refusal.{Refusal}
use Rattle.blocks.specs.declared.cycle.Cycle.{Cycle}

-- the flags: weight 1 enable, weight 2 error
abbrev pub enable : Cycle → Bool
enable c = c.flags % 2 == 1

abbrev pub error : Cycle → Bool
error c = c.flags / 2 % 2 == 1

-- by enable, error and whether the caller is ready; none for a reserved request
abbrev pub requested : Bool → Bool → Bool → ℕ → Option ℕ
requested true false ready octet = Some octet
requested true true ready octet = Some 257
requested false true ready octet = cond (octet == 0x01) (Some 261) None
requested false false ready octet = Some (cond ready 258 256)

-- the character of a cycle
abbrev pub meaning : Bool → Cycle → Option ℕ
meaning ready c = requested (enable c) (error c) ready c.octet

abbrev pub silent : Cycle
silent = record { octet = 0; flags = 0 }

abbrev pub reserved_request : ℕ → Refusal
reserved_request place = refusal 10 Layer.Cycle place

-- each character is that of the cycle at its place
pub record CharactersOf (ready : Bool) (cycles : List Cycle) (characters : List ℕ) : Type 0 where
  pub as_many_cycles : length cycles ≡ 450
  pub as_many_characters : length characters ≡ 450
  pub at_each_place : (k : ℕ) → k < 450 → meaning ready (slice_index_or cycles k silent) ≡ Some (slice_index characters k)

-- why a list of cycles is refused
pub data CyclesRefused (ready : Bool) (cycles : List Cycle) (characters : List ℕ) : Refusal → Type 0 where
  input_length : (length cycles ≢ 450) → CyclesRefused ready cycles characters (refusal 3 Layer.Cycle 0)
  output_length : length cycles ≡ 450 → (length characters ≢ 450) → CyclesRefused ready cycles characters (refusal 3 Layer.Cycle 1)
  reserved : {k : ℕ} → length cycles ≡ 450 → length characters ≡ 450 → k < 450 → ((j : ℕ) → j < k → meaning ready (slice_index_or cycles j silent) ≢ None) → meaning ready (slice_index_or cycles k silent) ≡ None → CyclesRefused ready cycles characters (reserved_request k)
