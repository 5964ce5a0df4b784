-- Line symbols, the line codes, and the two layers over any line code. Assumes nothing.
use Rattle.std.specs.Prelude.{◌≡◌, ℕ, ◌+◌, ◌/◌, ◌%◌, ◌<◌, Bool, cond, ◌&&◌, T, List, [], ◌∷◌, ℤ, pos, negsuc, ◌-ℤ◌, neg_ℤ, Some, None, Option, ◌≢◌, int_le, nat_lt, slice_index_or}

-- -1, 0 or 1
abbrev pub is_line_symbol : ℤ → Bool
is_line_symbol s = int_le (negsuc 0) s && int_le s (pos 1)

abbrev pub LinePair : ℤ × ℤ → Type 0
LinePair p = T (is_line_symbol p.0) × T (is_line_symbol p.1)

abbrev pub two_zeros : ℤ × ℤ
two_zeros = (pos 0, pos 0)

-- what reading a pair may answer: a word that writes the pair, or none where no word writes it
abbrev pub Reads : (ℕ → ℤ × ℤ) → ℤ × ℤ → Option ℕ → Type 0
Reads writes line None = (w : ℕ) → w < 8 → writes w ≢ line
Reads writes line (Some w) = (w < 8) × (writes w ≡ line)

-- agreement of two line codes: each word has the same pair in both
abbrev pub LineCodesAgree : (ℕ → ℤ × ℤ) → (ℕ → ℤ × ℤ) → Type 0
LineCodesAgree ours theirs = (w : ℕ) → w < 8 → ours w ≡ theirs w

-- the nine pairs counted from (-1, -1), second symbol fastest, without (0, 0), which is number 4
abbrev pub ordered_pair : ℕ → ℤ × ℤ
ordered_pair w = let n = cond (nat_lt w 4) w (w + 1) in (pos (n / 3) -ℤ pos 1, pos (n % 3) -ℤ pos 1)

abbrev pub ring_pairs : List (ℤ × ℤ)
ring_pairs =
    (negsuc 0, negsuc 0) ∷ (negsuc 0, pos 0) ∷ (pos 0, pos 1) ∷ (negsuc 0, pos 1) ∷ (pos 0, negsuc 0) ∷ (pos 1, negsuc 0) ∷ (pos 1, pos 1) ∷ (pos 1, pos 0) ∷ []

abbrev pub ring_pair : ℕ → ℤ × ℤ
ring_pair w = slice_index_or ring_pairs w (pos 0, pos 0)

-- both signs turned, for swapped wires
abbrev pub turned : ℤ × ℤ → ℤ × ℤ
turned p = (neg_ℤ p.0, neg_ℤ p.1)

-- the two symbols exchanged
abbrev pub exchanged : ℤ × ℤ → ℤ × ℤ
exchanged p = (p.1, p.0)
