-- What a reader makes of a line, group by group. Assumes nothing.
use Rattle.std.specs.Prelude.{◌≡◌, ℕ, ◌<◌, Bool, not, List, length, map, ℤ, Some, None, filter, Option, ◌==◌, ◌≢◌, bit_xor, slice_index, slice_index_or}
use Rattle.std.specs.List.{range_with_len}
use Rattle.std.specs.Option.{option_eq, unwrap_or}
use Rattle.codec.specs.Ends.{End}
use Rattle.codec.specs.Lines.{Near, line_group, line_frame, group, differing}

-- the scrambled symbol that a group of six line symbols is of, or that it is of none
abbrev pub GroupRead : (ℕ → ℤ × ℤ) → List ℤ → Option ℕ → Type 0
GroupRead pair six None = (c : ℕ) → c < 512 → line_group pair c ≢ six
GroupRead pair six (Some c) = (c < 512) × (line_group pair c ≡ six)

-- the same of the symbol under a mask
abbrev pub Descrambled : (ℕ → ℤ × ℤ) → ℕ → List ℤ → Option ℕ → Type 0
Descrambled pair mask six None = (c : ℕ) → c < 512 → line_group pair (bit_xor c mask) ≢ six
Descrambled pair mask six (Some c) = (c < 512) × (line_group pair (bit_xor c mask) ≡ six)

-- the same for all groups of a line, with the masks of the first period
pub record Demapped (pair : ℕ → ℤ × ℤ) (mask : ℕ → ℕ) (line : List ℤ) (symbols : List (Option ℕ)) : Type 0 where
  pub full : length symbols ≡ 450
  pub groups : (k : ℕ) → k < 450 → Descrambled pair (mask k) (group line k) (slice_index_or symbols k None)

-- the symbols, 0 for each erased group
abbrev pub filled : List (Option ℕ) → List ℕ
filled symbols = map (λ symbol. unwrap_or symbol 0) symbols

-- n numbers upwards from k: a word of its own, so that no check writes out all 450
unfoldable pub upward : ℕ → ℕ → List ℕ
upward k n = range_with_len k n

-- whether a group is erased, or carries another symbol than the word's
abbrev pub is_changed : List (Option ℕ) → List ℕ → ℕ → Bool
is_changed symbols word k = not (option_eq ◌==◌ (slice_index_or symbols k None) (Some (slice_index word k)))

-- such groups, ascending
unfoldable pub changed : List (Option ℕ) → List ℕ → List ℕ
changed symbols word = filter (is_changed symbols word) (upward 0 450)

-- the one codeword near a line, and the groups that differ from its line frame
pub record Repairs (end : End) (line : List ℤ) (word listed : List ℕ) : Type 0 where
  pub near : Near end 0 line word
  pub only : (other : List ℕ) → Near end 0 line other → other ≡ word
  pub places : listed ≡ differing line (line_frame end 0 word)
