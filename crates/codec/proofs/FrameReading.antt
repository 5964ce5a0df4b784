-- The blocks of a word, read one after another.
use Rattle.std.proofs.Common.{◌≡◌, ℕ, suc, ◌+◌, ◌-◌, ◌*◌, ◌/◌, ◌%◌, ◌^◌, ◌<◌, ◌≤◌, List, length, take, drop, Some, None, Option, sym, refl, ap, ◌∙◌, subst, inl, inr, arith, length-take, below_more}
use native.Mathlib.Nat.{div-eq_of_lt, add-mul-div_left, pow-succ', add-div_right}
use borrow.Rule.Slice.PartMut.{put_mid}
use Rattle.std.proofs.lemmas.Nat.{pow_pos, pow-add, one_shl}
use Rattle.std.proofs.lemmas.List.{get_or-take, get_or-drop, get_or_past, take-take, drop-take}
use Rattle.std.proofs.lemmas.Slice.{take-put_mid_below, between-put_mid}
use Rattle.std.proofs.lemmas.Bool.{cases_lt}
use Rattle.std.specs.Option.{option_or}
use Rattle.blocks.specs.Bits.{unpacked}
use Rattle.blocks.specs.Blocks.{EncodesOnly, EncodesNone, InvalidField}
use Rattle.blocks.specs.Faults.{block_refusal}
use Rattle.codec.specs.Frames.{block_from, block_at, ten_at}
use Rattle.codec.specs.Numbering.{TenErrors}
use Rattle.codec.specs.Reports.{Contains, BlockTold, FrameTold}
use Rattle.codec.specs.declared.faults.FrameFault.{FrameFault}
use Rattle.codec.proofs.FrameSymbols.{Small}
use Rattle.codec.proofs.FrameBits.{block_at_is}
use Rattle.codec.proofs.Turns.{length_put_mid}

-- a part of a word

pub part_small : (word : List ℕ) (m n : ℕ) → Small word → Small (take n (drop m word))
part_small word m n s i = elim (cases_lt i n) [
  | inl h ↦ rw (get_or-take n (drop m word) i 0 h, get_or-drop m word i 0) (s (m + i))
  | inr h ↦ rw (get_or_past (take n (drop m word)) i 0 (omega (arith, length-take n (drop m word)))) (omega arith)
]

-- a part of a list is in its front, and ten characters after a write to ten characters

pub in_front : (size m at : ℕ) (xs : List ℕ) → at + size ≤ m → take size (drop at (take m xs)) ≡ take size (drop at xs)
in_front size m at xs h =
    let e : m ≡ at + (m - at) = omega arith in
    ap (λ i. take size (drop at (take i xs))) e ∙ ap (take size) (drop-take at (m - at) xs) ∙ take-take size (m - at) (drop at xs) (omega arith)

pub ten_before : (xs ys : List ℕ) (k n j : ℕ) → 10 * k ≤ length xs → j < k → ten_at (put_mid (10 * k) n xs ys) j ≡ ten_at xs j
ten_before xs ys k n j h l =
    sym (in_front 10 (10 * k) (10 * j) (put_mid (10 * k) n xs ys) (omega arith))
    ∙ ap (λ t. ten_at t j) (take-put_mid_below (10 * k) n xs ys (10 * k) (omega arith) h)
    ∙ in_front 10 (10 * k) (10 * j) xs (omega arith)

pub ten_written : (xs ys : List ℕ) (k n : ℕ) → 10 * k ≤ length xs → length ys ≡ 10 → ten_at (put_mid (10 * k) n xs ys) k ≡ ys
ten_written xs ys k n h l =
    let e : 10 ≡ 10 * k + 10 - 10 * k = omega arith in
    ap (λ i. take i (drop (10 * k) (put_mid (10 * k) n xs ys))) e ∙ between-put_mid (10 * k) n xs ys (10 * k + 10) h (l ∙ e)

-- sets of blocks

none_past : (set k : ℕ) → set < 2 ^ k → Contains set k → ⊥
none_past set k h c = omega (arith, ap (λ x. x % 2) (div-eq_of_lt h))

added_below : (set k j : ℕ) → j < k → (set + 2 ^ k) / 2 ^ j % 2 ≡ set / 2 ^ j % 2
added_below set k j h =
    let m : ℕ = k - 1 - j in
    let e : k ≡ j + suc m = omega arith in
    let p : 2 ^ k ≡ 2 ^ j * (2 * 2 ^ m) = ap (λ i. 2 ^ i) e ∙ pow-add 2 j (suc m) ∙ ap (λ x. 2 ^ j * x) (pow-succ' 2 m) in
    ap (λ x. (set + x) / 2 ^ j % 2) p ∙ ap (λ x. x % 2) (add-mul-div_left set (2 * 2 ^ m) (pow_pos j)) ∙ omega arith

added_there : (set k : ℕ) → set < 2 ^ k → (set + 2 ^ k) / 2 ^ k % 2 ≡ 1
added_there set k h = ap (λ x. x % 2) (add-div_right set (pow_pos k) ∙ ap (λ x. x + 1) (div-eq_of_lt h))

pub added_fits : (set k : ℕ) → set < 2 ^ k → set + 2 ^ k < 2 ^ (k + 1)
added_fits set k h = let e : k + 1 ≡ suc k = omega arith in rw e (omega (arith, pow-succ' 2 k))

-- what is told of the first n blocks

abbrev pub FirstOf : List ℕ → ℕ → Option FrameFault → Type 0
FirstOf word n None = (k : ℕ) → k < n → EncodesNone (block_at word k) → ⊥
FirstOf word n (Some found) = (found.block < n) × InvalidField (block_at word found.block) (block_refusal found.fault) × ((k : ℕ) → k < found.block → EncodesNone (block_at word k) → ⊥)

pub record ToldOf (word characters : List ℕ) (n invalid : ℕ) (fault : Option FrameFault) : Type 0 where
  pub full : length characters ≡ 450
  pub blocks : (k : ℕ) → k < n → BlockTold invalid k (block_at word k) (ten_at characters k)
  pub no_further : invalid < 2 ^ n
  pub first : FirstOf word n fault

same_told : (invalid more k : ℕ) (block ten : List ℕ) → more / 2 ^ k % 2 ≡ invalid / 2 ^ k % 2 → BlockTold invalid k block ten → BlockTold more k block ten
same_told invalid more k block ten e t = record {
  invalid_when_none = ((λ c. t.invalid_when_none.0 (sym e ∙ c)), (λ n. e ∙ t.invalid_when_none.1 n));
  errors = λ c. t.errors (sym e ∙ c);
  otherwise = λ c. t.otherwise (λ d. c (e ∙ d));
}

-- one block more
told_more : (word characters ten : List ℕ) (k n invalid more : ℕ) (fault later : Option FrameFault) → k < 45 → n ≡ 10 → length ten ≡ 10 → ToldOf word characters k invalid fault → ((j : ℕ) → j < k → more / 2 ^ j % 2 ≡ invalid / 2 ^ j % 2) → BlockTold more k (block_at word k) ten → more < 2 ^ (k + 1) → FirstOf word (k + 1) later → ToldOf word (put_mid (10 * k) n characters ten) (k + 1) more later
told_more word characters ten k n invalid more fault later h m l t s b f g = record {
  full = length_put_mid (10 * k) n characters ten (omega (arith, h, m, t.full)) (l ∙ sym m) ∙ t.full;
  blocks = below_more (λ j. BlockTold more j (block_at word j) (ten_at (put_mid (10 * k) n characters ten) j)) k
      (λ j i. subst (BlockTold more j (block_at word j)) (sym (ten_before characters ten k n j (omega (arith, t.full)) i)) (same_told invalid more j (block_at word j) (ten_at characters j) (s j i) (t.blocks j i)))
      (subst (BlockTold more k (block_at word k)) (sym (ten_written characters ten k n (omega (arith, t.full)) l)) b);
  no_further = f;
  first = g;
}

first_kept : (word : List ℕ) (k : ℕ) (fault : Option FrameFault) → (EncodesNone (block_at word k) → ⊥) → FirstOf word k fault → FirstOf word (k + 1) fault
first_kept word k None e t = below_more (λ j. EncodesNone (block_at word j) → ⊥) k t e
first_kept word k (Some found) e (l, i, b) = (omega arith, i, b)

-- a block that encodes ten characters
pub told_valid : (word characters ten : List ℕ) (k n invalid : ℕ) (fault : Option FrameFault) → k < 45 → n ≡ 10 → ToldOf word characters k invalid fault → EncodesOnly (block_at word k) ten → ToldOf word (put_mid (10 * k) n characters ten) (k + 1) invalid fault
told_valid word characters ten k n invalid fault h m t (e, o) =
    let out : Contains invalid k → ⊥ = none_past invalid k t.no_further in
    told_more word characters ten k n invalid invalid fault fault h m e.ten t (λ j i. refl)
    (record { invalid_when_none = ((λ c. absurd (out c)), (λ none. absurd (none ten e))); errors = λ c. absurd (out c); otherwise = λ c. (e, o) })
    (omega (arith, added_fits invalid k t.no_further))
    (first_kept word k fault (λ none. none ten e) t.first)

first_found : (word ten : List ℕ) (k : ℕ) (fault : Option FrameFault) (found : FrameFault) → TenErrors k (block_at word k) ten found → FirstOf word k fault → FirstOf word (k + 1) (option_or fault (Some found))
first_found word ten k None found e t = (
  omega (arith, e.number),
  subst (λ j. InvalidField (block_at word j) (block_refusal found.fault)) (sym e.number) e.field,
  λ j l. t j (omega (arith, e.number)),
)
first_found word ten k (Some first) found e (l, i, b) = (omega arith, i, b)

-- an invalid block
pub told_invalid : (word characters ten : List ℕ) (k n invalid : ℕ) (fault : Option FrameFault) (found : FrameFault) → k < 45 → n ≡ 10 → ToldOf word characters k invalid fault → TenErrors k (block_at word k) ten found → ToldOf word (put_mid (10 * k) n characters ten) (k + 1) (invalid + 2 ^ k) (option_or fault (Some found))
told_invalid word characters ten k n invalid fault found h m t e =
    let there : Contains (invalid + 2 ^ k) k = added_there invalid k t.no_further in
    told_more word characters ten k n invalid (invalid + 2 ^ k) fault (option_or fault (Some found)) h m (ap length e.errors) t (λ j i. added_below invalid k j i)
    (record { invalid_when_none = ((λ c. e.none), (λ none. there)); errors = λ c. e.errors; otherwise = λ c. absurd (c there) })
    (added_fits invalid k t.no_further)
    (first_found word ten k fault found e t.first)

-- the same, as the reading call has them
module _ (word characters nine ten : List ℕ) (k n invalid : ℕ) (fault : Option FrameFault) (within : k < 45) (part : nine ≡ take 9 (drop (9 * k) word)) (long : n ≡ 10) (told : ToldOf word characters k invalid fault) where
  block_part : block_from (unpacked 9 nine) ≡ block_at word k
  block_part = ap (λ l. block_from (unpacked 9 l)) part ∙ sym (block_at_is word k)

  pub read_valid : EncodesOnly (block_from (unpacked 9 nine)) ten → ToldOf word (put_mid (10 * k) n characters ten) (k + 1) invalid fault
  read_valid e = told_valid word characters ten k n invalid fault within long told (subst (λ b. EncodesOnly b ten) block_part e)

  pub read_invalid : (found : FrameFault) (more : ℕ) → TenErrors k (block_from (unpacked 9 nine)) ten found → more ≡ invalid + (1 * 2 ^ k) % 2 ^ 64 → ToldOf word (put_mid (10 * k) n characters ten) (k + 1) more (option_or fault (Some found))
  read_invalid found more e i =
      rw (i ∙ ap (λ x. invalid + x) (one_shl k 64 (omega (arith, within)))) (told_invalid word characters ten k n invalid fault found within long told (subst (λ b. TenErrors k b ten found) block_part e))

pub told_all : (word characters : List ℕ) (invalid : ℕ) (fault : Option FrameFault) → ToldOf word characters 45 invalid fault → FrameTold word characters invalid fault
told_all word characters invalid None t = record { full = t.full; blocks = t.blocks; no_further = t.no_further; first = t.first }
told_all word characters invalid (Some found) t = record { full = t.full; blocks = t.blocks; no_further = t.no_further; first = t.first }
