-- One turn of the loops that write and read a line. Assumes nothing.
use Rattle.std.proofs.Common.{◌≡◌, ℕ, ◌+◌, ◌*◌, ◌<◌, ◌≤◌, Bool, true, false, cond, not, ltb, List, [], ◌∷◌, ◌++◌, length, get_or, take, drop, set, Some, None, Option, ℤ, sym, refl, ap, ◌∙◌, ap₂, add-zero, zero-add, arith, MatchOption}
use borrow.Rule.Slice.PartMut.{put_mid}
use lib.Bits.{bit_xor}
use Rattle.std.specs.List.{position, prefix_len}
use Rattle.std.proofs.lemmas.List.{take_more, take_all, length-take-le, length-append, length-drop}
use Rattle.std.proofs.lemmas.Slice.{take-put_mid}
use Rattle.std.proofs.lemmas.List.Sums.{prefix_len-le-length}
use Rattle.code.proofs.Filled.{filled_more}
use Rattle.codec.specs.Lines.{line_group, line_from, group}
use Rattle.codec.specs.Demapping.{Descrambled}
use Rattle.codec.proofs.Groups.{length_group}
use Rattle.codec.proofs.Apart.{from_push}

-- the first number that fails a test

twice_not : (p : ℤ → Bool) (xs : List ℤ) → prefix_len (λ x. not (not (p x))) xs ≡ prefix_len p xs
twice_not p [] = refl
twice_not p (x ∷ xs) = ap₂ (λ b n. cond b (1 + n) 0) (not_not (p x)) (twice_not p xs)
  where
    not_not : (b : Bool) → not (not b) ≡ b
    not_not true = refl
    not_not false = refl

at_fault : (n m : ℕ) (r : Option ℕ) → r ≡ cond (ltb n m) (Some n) None → MatchOption r (m ≤ n) (λ place. (n < m) × (place ≡ n))
at_fault n m None e = grind arith
at_fault n m (Some place) e = grind arith

pub first_fault : (p : ℤ → Bool) (xs : List ℤ) (r : Option ℕ) → r ≡ position (λ x. not (p x)) xs → MatchOption r (prefix_len p xs ≡ length xs) (λ place. (prefix_len p xs < length xs) × (place ≡ prefix_len p xs))
first_fault p xs None e = omega (arith, prefix_len-le-length p xs, twice_not p xs, at_fault _ _ None e)
first_fault p xs (Some place) e = let found = at_fault _ _ (Some place) e in (omega (arith, twice_not p xs, found.0), found.1 ∙ twice_not p xs)

-- masks used up: after k turns mask i is mask k + i of the start
abbrev pub Used : (ℕ → ℕ) → (ℕ → ℕ) → ℕ → Type 0
Used start after k = (i : ℕ) → after i ≡ start (k + i)

pub used_none : (start : ℕ → ℕ) → Used start start 0
used_none start i = ap start (sym (zero-add i))

pub used_more : (start before after : ℕ → ℕ) (k : ℕ) → Used start before k → ((i : ℕ) → after i ≡ before (i + 1)) → Used start after (k + 1)
used_more start before after k u next i = let e : k + (i + 1) ≡ k + 1 + i = omega arith in next i ∙ u (i + 1) ∙ ap start e

pub used_all : (start after : ℕ → ℕ) (k : ℕ) → k ≡ 450 → Used start after k → Used start after 450
used_all start after k e u i = u i ∙ ap (λ n. start (n + i)) e

-- the mask of a turn
pub mask_now : (start before : ℕ → ℕ) (k m : ℕ) → Used start before k → m ≡ before 0 → m ≡ start k
mask_now start before k m u e = e ∙ u 0 ∙ ap start (add-zero k)

-- the groups written
module _ (pair : ℕ → ℤ × ℤ) (mask : ℕ → ℕ) where
  pub written_none : [] ≡ line_from pair mask 0 []
  unfolding line_from
  written_none = refl

  pub written_more : (k n m : ℕ) (line six : List ℤ) (word : List ℕ) → k < length word → 6 * k ≤ length line → m ≡ mask k
      → take (6 * k) line ≡ line_from pair mask 0 (take k word) → six ≡ line_group pair (bit_xor (get_or word k 0) m)
      → take (6 * (k + 1)) (put_mid (6 * k) n line six) ≡ line_from pair mask 0 (take (k + 1) word)
  written_more k n m line six word h l e before written =
      let long : length six ≡ 6 = ap length written ∙ length_group pair (bit_xor (get_or word k 0) m) in
      let at : 0 + length (take k word) ≡ k = zero-add _ ∙ length-take-le k word (omega arith) in
      take-put_mid (6 * k) n line six (6 * (k + 1)) (omega arith) l
      ∙ ap (λ x. x ++ six) before
      ∙ ap (λ x. line_from pair mask 0 (take k word) ++ x) (written ∙ ap (λ x. line_group pair (bit_xor (get_or word k 0) x)) (e ∙ ap mask (sym at)))
      ∙ sym (ap (line_from pair mask 0) (take_more word k 0 h) ∙ from_push pair mask 0 (take k word) (get_or word k 0))

  pub written_all : (k : ℕ) (line : List ℤ) (word : List ℕ) → length line ≤ 6 * k → length word ≤ k
      → take (6 * k) line ≡ line_from pair mask 0 (take k word) → line ≡ line_from pair mask 0 word
  written_all k line word l h e = sym (take_all (6 * k) line l) ∙ e ∙ ap (line_from pair mask 0) (take_all k word h)

-- a part is written, and the length stays
pub length_put_mid : {X : Type 0} (a k : ℕ) (xs ys : List X) → a + k ≤ length xs → length ys ≡ k → length (put_mid a k xs ys) ≡ length xs
length_put_mid a k xs ys h l =
    length-append (take a xs) (ys ++ drop k (drop a xs))
    ∙ omega (arith, length-append ys (drop k (drop a xs)), length-take-le a xs (omega arith), length-drop k (drop a xs), length-drop a xs)

-- the symbols read
pub demapped_more : (pair : ℕ → ℤ × ℤ) (mask : ℕ → ℕ) (line : List ℤ) (symbols : List (Option ℕ)) (k : ℕ) (symbol : Option ℕ) → k < length symbols
    → ((i : ℕ) → i < k → Descrambled pair (mask i) (group line i) (get_or symbols i None)) → Descrambled pair (mask k) (group line k) symbol
    → (i : ℕ) → i < k + 1 → Descrambled pair (mask i) (group line i) (get_or (set symbols k symbol) i None)
demapped_more pair mask line symbols k symbol h before here = filled_more (λ i. Descrambled pair (mask i) (group line i)) symbols None symbol k h before here
