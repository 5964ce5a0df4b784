-- Worked values, and what holds of all blocks. Assumes nothing.
use Rattle.std.specs.Prelude.{◌≡◌, ℕ, ◌<◌, List, [], ◌∷◌, replicate, slice_index}
use Rattle.refusal.specs.declared.kinds.Refusal.{Refusal}
use Rattle.blocks.specs.Blocks.{block_of, Encodes, InvalidField, invalid_pointer, reserved_code}

-- values worked out by hand from the rules
pub record WorkedBlocks : Type 0 where
  pub ten_ready_idles : block_of (replicate 10 258) ≡ 1 ∷ 80 ∷ 81 ∷ 82 ∷ 83 ∷ 84 ∷ 85 ∷ 86 ∷ 87 ∷ 88 ∷ 73 ∷ []
  pub error_in_octet_nine : block_of (1 ∷ 2 ∷ 3 ∷ 4 ∷ 5 ∷ 6 ∷ 7 ∷ 8 ∷ 9 ∷ 257 ∷ []) ≡ 1 ∷ 41 ∷ 64 ∷ 96 ∷ 128 ∷ 160 ∷ 192 ∷ 224 ∷ 0 ∷ 33 ∷ 129 ∷ []
  -- payloads that begin with an invalid field, whatever follows
  pub more_after_position_nine : (rest : List ℕ) → InvalidField (1 ∷ 25 ∷ rest) (invalid_pointer 0)
  pub position_past_the_end : (rest : List ℕ) → InvalidField (1 ∷ 10 ∷ rest) (invalid_pointer 0)
  pub position_passed_already : (rest : List ℕ) → InvalidField (1 ∷ 16 ∷ 0 ∷ rest) (invalid_pointer 1)
  pub code_of_no_control : (rest : List ℕ) → InvalidField (1 ∷ 192 ∷ rest) (reserved_code 0)

-- a block encodes one ten at the most
abbrev pub OneReading : Type 0
OneReading = (block cs ds : List ℕ) → Encodes block cs → Encodes block ds → cs ≡ ds

-- a block has one first invalid field at the most
abbrev pub OneFirst : Type 0
OneFirst = (block : List ℕ) (one other : Refusal) → InvalidField block one → InvalidField block other → one ≡ other

-- and a block of octets that encodes characters has none
abbrev pub NeverBoth : Type 0
NeverBoth = (block cs : List ℕ) (why : Refusal) → ((k : ℕ) → slice_index block k < 256) → Encodes block cs → InvalidField block why → ⊥
