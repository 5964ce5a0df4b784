-- Characters: what one octet of a block stands for.
use Rattle.std.specs.Prelude.{◌≡◌, ℕ, ◌<◌, Bool, ◌⊎◌, List, length, nat_lt, slice_index}

-- 256 idle, partner not ready; 257 error; 258 idle, partner ready; 261 low power:
-- 256 plus the three-bit code 000, 001, 010 or 101
abbrev pub Control : ℕ → Type 0
Control c = (c ≡ 256) ⊎ ((c ≡ 257) ⊎ ((c ≡ 258) ⊎ (c ≡ 261)))

-- a data octet or a control
abbrev pub Character : ℕ → Type 0
Character c = (c < 256) ⊎ Control c

-- of the characters, those above 255 are the controls
abbrev pub is_control : ℕ → Bool
is_control c = nat_lt 255 c

abbrev pub Characters : List ℕ → Type 0
Characters cs = (k : ℕ) → k < length cs → Character (slice_index cs k)

-- the first number of a list that is no character stands at a place
pub record FirstNoCharacter (cs : List ℕ) (place : ℕ) : Type 0 where
  pub inside : place < length cs
  pub before : (j : ℕ) → j < place → Character (slice_index cs j)
  pub there : Character (slice_index cs place) → ⊥
