-- Line frames of all periods: at most one codeword near a line, equal frames where ends agree. Assumes nothing.
use Rattle.std.proofs.Common.{◌≡◌, ℕ, ◌+◌, ◌*◌, ◌/◌, ◌%◌, ◌<◌, ◌≤◌, Bool, true, false, not, ◌||◌, List, [], ◌∷◌, ◌++◌, length, get_or, ℤ, filter, sym, refl, ap, ◌∙◌, arith}
use borrow.Author.Tests.{eqb-false, not-true}
use lib.Bits.{bit_xor}
use Rattle.arithmetic.specs.Laws.{Lawful}
use Rattle.code.specs.Words.{distance, Word}
use Rattle.code.proofs.Completion.{uniquely}
use Rattle.lines.specs.LineCodes.{LineCodesAgree}
use Rattle.lines.specs.Scramblers.{StreamsAgree}
use Rattle.codec.specs.Ends.{End, Agree}
use Rattle.codec.specs.Lines.{line_group, line_from, line_frame, same, group, apart, Near}
use Rattle.codec.specs.Demapping.{upward}
use Rattle.codec.proofs.Groups.{Distinct, group_is, same_equal, scrambled_same}
use Rattle.codec.proofs.Apart.{group_from, group_differs, differing_kept, symbol_differs, distance_kept, kept_cover}

module _ (end : End) (distinct : Distinct end.pair) (small : (k : ℕ) → end.mask k < 512) (period : ℕ) (word other : List ℕ) (w : Word word) (o : Word other) where
  -- equal groups of two line frames are of equal symbols
  symbols_same : (i : ℕ) → i < 450 → group (line_frame end period word) i ≡ group (line_frame end period other) i → get_or word i 0 ≡ get_or other i 0
  unfolding line_frame
  symbols_same i h e =
      scrambled_same end.pair distinct (get_or word i 0) (get_or other i 0) (end.mask (450 * period + i)) (w.small i) (o.small i) (small (450 * period + i))
      (sym (group_from end.pair end.mask (450 * period) word i (omega (arith, w.full))) ∙ e ∙ group_from end.pair end.mask (450 * period) other i (omega (arith, o.full)))

  -- no more symbols of two words differ than groups of their line frames differ from a line
  pub distance_between : (line : List ℤ) → distance word other ≤ apart line (line_frame end period word) + apart line (line_frame end period other)
  distance_between line =
      let t = symbol_differs word other in
      let u = group_differs line (line_frame end period word) in
      let v = group_differs line (line_frame end period other) in
      let count : distance word other ≡ length (filter t (upward 0 450)) = distance_kept word other (w.full ∙ sym o.full) ∙ ap (λ n. length (filter t (upward 0 n))) w.full in
      let ours = ap length (differing_kept line (line_frame end period word)) in
      let theirs = ap length (differing_kept line (line_frame end period other)) in
      omega (arith, count, ours, theirs, kept_cover t u v 0 450 (λ i h e. one (same (group line i) (group (line_frame end period word) i)) (same (group line i) (group (line_frame end period other) i)) refl refl (omega arith) e))
    where
      one : (a b : Bool) {i : ℕ} → same (group line i) (group (line_frame end period word) i) ≡ a → same (group line i) (group (line_frame end period other) i) ≡ b
          → i < 450 → symbol_differs word other i ≡ true → not a || not b ≡ true
      one false b e f h d = refl
      one true false e f h d = refl
      one true true {i} e f h d = absurd (eqb-false _ _ (not-true _ d) (symbols_same i h (sym (same_equal _ _ e) ∙ same_equal _ _ f)))

-- at most one codeword is near a line
pub near_unique : (end : End) → Lawful end.field → Distinct end.pair → ((k : ℕ) → end.mask k < 512) → (period : ℕ) (line : List ℤ) (word other : List ℕ)
    → Near end period line word → Near end period line other → other ≡ word
near_unique end lawful distinct small period line word other n m =
    uniquely lawful other word m.codeword n.codeword (omega (arith, distance_between end distinct small period other word m.codeword.word n.codeword.word line, n.within, m.within))

-- ends that agree

group_agree : (p q : ℕ → ℤ × ℤ) → LineCodesAgree p q → (c : ℕ) → line_group p c ≡ line_group q c
group_agree p q agree c =
    let low = agree (c % 8) (omega arith) in
    let middle = agree (c / 8 % 8) (omega arith) in
    let high = agree (c / 64 % 8) (omega arith) in
    group_is p c ∙ rw (low, middle, high) (sym (group_is q c))

from_agree : (p q : ℕ → ℤ × ℤ) (m n : ℕ → ℕ) → LineCodesAgree p q → StreamsAgree m n → (j : ℕ) (word : List ℕ) → line_from p m j word ≡ line_from q n j word
unfolding line_from
from_agree p q m n codes streams j [] = refl
from_agree p q m n codes streams j (c ∷ word) =
    ap (λ l. l ++ line_from p m (j + 1) word) (group_agree p q codes (bit_xor c (m j)) ∙ ap (λ x. line_group q (bit_xor c x)) (streams j))
    ∙ ap (λ l. line_group q (bit_xor c (n j)) ++ l) (from_agree p q m n codes streams (j + 1) word)

pub frames_agree : {a b : End} → Agree a b → (period : ℕ) (word : List ℕ) → line_frame a period word ≡ line_frame b period word
unfolding line_frame
frames_agree {a} {b} agree period word = from_agree a.pair b.pair a.mask b.mask agree.codes agree.streams (450 * period) word
