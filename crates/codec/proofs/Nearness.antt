-- The codeword near a line, from the symbols of its groups. Assumes nothing.
use Rattle.std.proofs.Common.{◌≡◌, ℕ, ◌<◌, ◌≤◌, true, false, not, eqb, List, length, get_or, ℤ, Some, None, Option, filter, sym, refl, ap, ◌∙◌, subst, zero-add, arith}
use native.Mathlib.Decide.{dec_lt}
use lib.Bits.{bit_xor}
use Rattle.std.proofs.Math.ListN.{get_or-map}
use Rattle.std.proofs.lemmas.List.{get_or_past, length-map}
use Rattle.std.specs.Option.{option_eq, unwrap_or}
use Rattle.code.specs.Words.{distance, Word}
use Rattle.code.specs.Outcomes.{Repaired, Astray}
use Rattle.codec.specs.Ends.{End}
use Rattle.codec.specs.Lines.{line_group, line_from, line_frame, same, group, differing, apart, Near, NoneNear}
use Rattle.codec.specs.Demapping.{Descrambled, Demapped, Repairs, filled, is_changed, changed, upward}
use Rattle.codec.proofs.Groups.{Distinct, changed_test}
use Rattle.codec.proofs.Apart.{group_from, group_differs, differing_kept, symbol_differs, distance_kept, kept_upward, kept_cover, kept_none}

pub filled_at : (symbols : List (Option ℕ)) (k : ℕ) → get_or (filled symbols) k 0 ≡ unwrap_or (get_or symbols k None) 0
filled_at symbols k = get_or-map (λ symbol. unwrap_or symbol 0) symbols k None

pub length_filled : (symbols : List (Option ℕ)) → length (filled symbols) ≡ length symbols
length_filled symbols = length-map symbols (λ symbol. unwrap_or symbol 0)

read_small : (pair : ℕ → ℤ × ℤ) (mask : ℕ) (six : List ℤ) (symbol : Option ℕ) → Descrambled pair mask six symbol → (c : ℕ) → symbol ≡ Some c → c < 512
read_small pair mask six None erased c e = cc
read_small pair mask six (Some d) (small, read) c e = let same : d ≡ c = cc in omega arith

-- the symbols of a line have nine bits
pub read_nine_bits : {pair : ℕ → ℤ × ℤ} {mask : ℕ → ℕ} {line : List ℤ} {symbols : List (Option ℕ)} → Demapped pair mask line symbols → (k c : ℕ) → get_or symbols k None ≡ Some c → c < 512
read_nine_bits {pair} {mask} {line} {symbols} demapped k c e = elim (dec_lt k 450) [
  | yes h ↦ read_small pair (mask k) (group line k) (get_or symbols k None) (demapped.groups k h) c e
  | no h ↦ (let past : get_or symbols k None ≡ None = get_or_past symbols k None (omega (arith, demapped.full)) in cc)
]

small_or_zero : (symbol : Option ℕ) → ((c : ℕ) → symbol ≡ Some c → c < 512) → unwrap_or symbol 0 < 512
small_or_zero None small = omega arith
small_or_zero (Some c) small = small c refl

-- the symbols of a line, erased ones as 0, are a word
pub filled_word : (symbols : List (Option ℕ)) → length symbols ≡ 450 → ((k c : ℕ) → get_or symbols k None ≡ Some c → c < 512) → Word (filled symbols)
filled_word symbols full small = record {
  full = length_filled symbols ∙ full;
  small = λ i. rw (filled_at symbols i) (small_or_zero (get_or symbols i None) (small i));
}

-- a symbol that differs is one that is changed
differs_changed : (symbol : Option ℕ) (v : ℕ) → not (eqb (unwrap_or symbol 0) v) ≡ true → not (option_eq eqb symbol (Some v)) ≡ true
differs_changed None v e = refl
differs_changed (Some c) v e = e

module _ (end : End) (distinct : Distinct end.pair) (small : (k : ℕ) → end.mask k < 512) (line : List ℤ) (symbols : List (Option ℕ)) (demapped : Demapped end.pair end.mask line symbols) where
  -- the groups that differ from a word's line frame are those that are changed
  pub differing_changed : (v : List ℕ) → Word v → differing line (line_frame end 0 v) ≡ changed symbols v
  unfolding line_frame changed
  differing_changed v word =
      let frame = line_from end.pair end.mask 0 v in
      differing_kept line frame ∙ kept_upward (group_differs line frame) (is_changed symbols v) 0 450 (λ i h.
      let within : i < length v = omega (arith, word.full) in
      ap (λ x. not (same (group line i) x)) (group_from end.pair end.mask 0 v i within ∙ ap (λ n. line_group end.pair (bit_xor (get_or v i 0) (end.mask n))) (zero-add i))
      ∙ changed_test end.pair distinct (end.mask i) (group line i) (get_or symbols i None) (get_or v i 0) (small i) (word.small i) (demapped.groups i (omega arith)))

  pub apart_changed : (v : List ℕ) → Word v → apart line (line_frame end 0 v) ≡ length (changed symbols v)
  apart_changed v word = ap length (differing_changed v word)

  -- no more symbols differ than groups
  pub distance_apart : (v : List ℕ) → Word v → distance (filled symbols) v ≤ apart line (line_frame end 0 v)
  unfolding changed
  distance_apart v word =
      let long : length (filled symbols) ≡ 450 = length_filled symbols ∙ demapped.full in
      let t = symbol_differs (filled symbols) v in
      let count : distance (filled symbols) v ≡ length (filter t (upward 0 450)) = distance_kept (filled symbols) v (long ∙ sym word.full) ∙ ap (λ n. length (filter t (upward 0 n))) long in
      let none = ap length (kept_none 0 450) in
      let cover = kept_cover t (is_changed symbols v) (λ _. false) 0 450 (λ i h e. rw (differs_changed (get_or symbols i None) (get_or v i 0) (ap (λ c. not (eqb c (get_or v i 0))) (sym (filled_at symbols i)) ∙ e)) refl) in
      omega (arith, count, none, cover, apart_changed v word)

  -- a codeword near the line is near its symbols
  pub near_distance : (v : List ℕ) → Near end 0 line v → distance (filled symbols) v ≤ 22
  near_distance v near = omega (arith, distance_apart v near.codeword.word, near.within)

  -- the word that was repaired has the line's symbols
  module _ (w : List ℕ) (given : w ≡ filled symbols) where
    same_repaired : (word : List ℕ) (count : ℕ) → Repaired end.field w word count → Repaired end.field (filled symbols) word count
    same_repaired word count repaired = subst (λ x. Repaired end.field x word count) given repaired

    pub repairs : (word places : List ℕ) (count : ℕ) → Repaired end.field w word count → (places ≡ changed symbols word) × (length places ≤ 22) → Repairs end line word places
    repairs word places count r (listed, few) =
        let repaired = same_repaired word count r in
        let whole = repaired.codeword.word in
        record {
          near = record { codeword = repaired.codeword; within = omega (arith, apart_changed word whole, ap length listed) };
          only = λ other n. repaired.only other n.codeword (near_distance other n);
          places = listed ∙ sym (differing_changed word whole);
        }

    pub none_near_many : (word : List ℕ) (count : ℕ) → Repaired end.field w word count → 22 < length (changed symbols word) → NoneNear end 0 line
    none_near_many word count r many other near =
        let repaired = same_repaired word count r in
        let e = repaired.only other near.codeword (near_distance other near) in
        let within = subst (λ v. apart line (line_frame end 0 v) ≤ 22) e near.within in
        omega (arith, within, apart_changed word repaired.codeword.word)

    pub none_near_astray : Astray end.field w → NoneNear end 0 line
    none_near_astray astray other near = astray.none other near.codeword (subst (λ x. distance x other ≤ 22) (sym given) (near_distance other near))
