-- A reading that fails, fails at the first invalid field.
use Rattle.std.proofs.Common.{◌≡◌, ℕ, zero, suc, ◌+◌, ◌-◌, ◌*◌, ◌/◌, ◌%◌, ◌<◌, ◌≤◌, Bool, true, false, ◌⊎◌, List, [], ◌∷◌, map, reverse, length, get_or, take, drop, Some, None, Ok, Err, Option, Result, MatchResult, sym, refl, ap, ◌∙◌, subst, inl, inr, suc-le-suc, zero-le, arith}
use Rattle.std.proofs.lemmas.List.{drop-drop}
use Rattle.std.proofs.lemmas.Bool.{both_ways}
use Rattle.blocks.specs.Characters as characters
use Rattle.blocks.specs.Faults.{block_refusal}
use Rattle.blocks.specs.Bits.{bits, number, unpacked}
use Rattle.blocks.specs.Blocks.{reserved_code, pointer, header, position, more, from_code, coded, ValidPointer, InvalidFrom, pointer_invalid, code_invalid, later, InvalidField, header_invalid, field_invalid, Encodes, EncodesOnly, EncodesNone}
use Rattle.blocks.specs.Steps.{turned, valid, before_all, started, reading}
use Rattle.blocks.specs.declared.faults.BlockFault.{BlockFault}
use Rattle.blocks.specs.declared.faults.BlockFault.TheVariants.{InvalidPointer, ReservedCode}
use Rattle.blocks.specs.declared.ahead.Ahead.{Ahead}
use Rattle.blocks.specs.declared.ahead.Ahead.TheVariants.{Pointer, Control}
use Rattle.blocks.proofs.Packing.{drop_unpacked}
use Rattle.blocks.proofs.Octets.{Points, points_more, block_line}
use Rattle.blocks.proofs.Inverse.{Below, points_valid, valid_points, back_nothing, KnownOctet, not_yet, last_control, earlier_control, reserved, known_octet, starts, reads_back, makes_block, only_those}

-- an octet's bits

halves : (b : ℕ) → b / 2 / 2 / 2 / 2 ≡ b / 16
halves b = omega arith

pub position_is : (b : ℕ) (bs : List ℕ) → position (unpacked 8 (b ∷ bs)) ≡ b % 16
unfolding unpacked bits number
position_is b bs = omega arith

pub more_is : (b : ℕ) (bs : List ℕ) → more (unpacked 8 (b ∷ bs)) ≡ b / 16 % 2
unfolding unpacked bits number
more_is b bs = ap (λ x. x % 2) (halves b)

code_is : (b : ℕ) (bs : List ℕ) → b < 256 → number (reverse (take 3 (drop 5 (unpacked 8 (b ∷ bs))))) ≡ turned (b / 32)
unfolding unpacked bits number
code_is b bs h =
    let e : b / 2 / 2 / 2 / 2 / 2 ≡ b / 32 = omega arith in
    rw e (high (b / 32) (omega arith))
  where
    high : (t : ℕ) → t < 8 → t / 2 / 2 % 2 + 2 * (t / 2 % 2 + 2 * (t % 2 + 2 * 0)) ≡ turned t
    high t h = omega arith

at_code : (j : ℕ) (bs : List ℕ) → drop (5 + 8 * j) (unpacked 8 bs) ≡ drop 5 (unpacked 8 (drop j bs))
at_code j bs = let e : 5 + 8 * j ≡ 8 * j + 5 = omega arith in rw e (sym (drop-drop 5 (8 * j) (unpacked 8 bs)) ∙ ap (drop 5) (drop_unpacked 8 j bs))

-- what follows octet j
past_code : (j : ℕ) (bs : List ℕ) → j < length bs → drop 3 (drop 5 (unpacked 8 (drop j bs))) ≡ unpacked 8 (drop (suc j) bs)
unfolding unpacked bits
past_code j [] h = absurd (omega arith)
past_code zero (b ∷ bs) h = refl
past_code (suc j) (b ∷ bs) h = past_code j bs (omega arith)

code_at : (j : ℕ) (bs : List ℕ) → j < length bs → Below bs → number (reverse (take 3 (drop 5 (unpacked 8 (drop j bs))))) ≡ turned (get_or bs j 0 / 32)
code_at j [] h l = absurd (omega arith)
code_at zero (b ∷ bs) h l = code_is b bs (l 0 (suc-le-suc zero-le))
code_at (suc j) (b ∷ bs) h l = code_at j bs (omega arith) (λ k i. l (suc k) (suc-le-suc i))

-- readings that fail

fails : (c : ℕ) (r : Result (List ℕ) BlockFault) (e : BlockFault) → before_all c r ≡ Err e → r ≡ Err e
fails c (Ok ds) e h = let z : ◌≡◌ {A = ℕ} 0 1 = cc in absurd (omega arith)
fails c (Err x) e h = cc

abbrev pub Code : ℕ → List ℕ → Type 0
Code j bs = characters.Control (256 + turned (get_or bs j 0 / 32))

abbrev Invalid : ℕ → List ℕ → BlockFault → Type 0
Invalid n bs e = InvalidFrom n (unpacked 8 bs) (block_refusal e)

-- after a pointer q that is ahead by j octets
abbrev After : ℕ → List ℕ → ℕ → BlockFault → Type 0
After n bs q e = (j : ℕ) → n + j ≡ q % 16 → ((Code j bs → ⊥) × (e ≡ ReservedCode (q % 16))) ⊎ (Code j bs × (16 ≤ q) × Invalid (q % 16 + 1) (drop (suc j) bs) e)

abbrev KnownFails : ℕ → List ℕ → Type 0
KnownFails n bs = (q : ℕ) (e : BlockFault) → Points n q → reading (Control q) n bs ≡ Err e → After n bs q e

abbrev DueFails : ℕ → List ℕ → Type 0
DueFails n bs = (e : BlockFault) → reading Pointer n bs ≡ Err e → Invalid n bs e

pub valid_bits : (n b : ℕ) (bs : List ℕ) → Points n (b % 32) → ValidPointer n (unpacked 8 (b ∷ bs))
valid_bits n b bs h = record {
  ahead = omega (arith, position_is b bs, h.ahead);
  inside = omega (arith, position_is b bs, h.inside);
  last = λ p m. h.last (omega (arith, position_is b bs, more_is b bs));
}

bits_valid : (n b : ℕ) (bs : List ℕ) → ValidPointer n (unpacked 8 (b ∷ bs)) → Points n (b % 32)
bits_valid n b bs v = record {
  ahead = omega (arith, position_is b bs, v.ahead);
  inside = omega (arith, position_is b bs, v.inside);
  last = λ p. v.last (omega (arith, position_is b bs)) (omega (arith, more_is b bs));
  small = omega arith;
}

pub coded_is : (n j : ℕ) (bs : List ℕ) → position (unpacked 8 bs) - n ≡ j → j < length bs → Below bs → coded n (unpacked 8 bs) ≡ 256 + turned (get_or bs j 0 / 32)
coded_is n j bs e h l = ap (λ k. 256 + number (reverse (take 3 (drop (5 + 8 * k) (unpacked 8 bs))))) e ∙ ap (λ x. 256 + number (reverse (take 3 x))) (at_code j bs) ∙ ap (λ x. 256 + x) (code_at j bs h l)

pub on_is : (n j : ℕ) (bs : List ℕ) → position (unpacked 8 bs) - n ≡ j → j < length bs → drop 3 (from_code n (unpacked 8 bs)) ≡ unpacked 8 (drop (suc j) bs)
on_is n j bs e h = ap (λ k. drop 3 (drop (5 + 8 * k) (unpacked 8 bs))) e ∙ ap (drop 3) (at_code j bs) ∙ past_code j bs h

due_fails : (n : ℕ) (bs : List ℕ) → n + length bs ≡ 10 → n < 10 → Below bs → KnownFails n bs → DueFails n bs
unfolding reading
due_fails n [] l h below ih e r = absurd (omega arith)
due_fails n (b ∷ bs) l h below ih e r = go (valid n (b % 32)) refl
  where
    j : ℕ
    j = b % 32 % 16 - n

    done : Points n (b % 32) → ((Code j (b ∷ bs) → ⊥) × (e ≡ ReservedCode (b % 32 % 16))) ⊎ (Code j (b ∷ bs) × (16 ≤ b % 32) × Invalid (b % 32 % 16 + 1) (drop (suc j) (b ∷ bs)) e) → Invalid n (b ∷ bs) e
    done pts (inl (no_code, s)) =
        let p : position (unpacked 8 (b ∷ bs)) ≡ b % 32 % 16 = position_is b bs ∙ omega arith in
        let k : position (unpacked 8 (b ∷ bs)) - n ≡ j = ap (λ x. x - n) p in
        let i : j < length (b ∷ bs) = omega (arith, pts.inside, pts.ahead) in
        subst (Invalid n (b ∷ bs)) (sym s)
        (subst (λ x. InvalidFrom n (unpacked 8 (b ∷ bs)) (reserved_code x)) p (code_invalid (valid_bits n b bs pts) (λ c. no_code (subst characters.Control (coded_is n j (b ∷ bs) k i below) c))))
    done pts (inr (code, big, inv)) =
        let p : position (unpacked 8 (b ∷ bs)) ≡ b % 32 % 16 = position_is b bs ∙ omega arith in
        let k : position (unpacked 8 (b ∷ bs)) - n ≡ j = ap (λ x. x - n) p in
        let i : j < length (b ∷ bs) = omega (arith, pts.inside, pts.ahead) in
        let m : b / 16 % 2 ≡ 1 = omega arith in
        later (valid_bits n b bs pts) (subst characters.Control (sym (coded_is n j (b ∷ bs) k i below)) code) (more_is b bs ∙ m)
        (rw (on_is n j (b ∷ bs) k i, p) inv)

    go : (t : Bool) → valid n (b % 32) ≡ t → Invalid n (b ∷ bs) e
    go false v =
        let s : InvalidPointer n ≡ e = cc (rw v at r) in
        subst (Invalid n (b ∷ bs)) s (pointer_invalid (λ p. both_ways (valid n (b % 32)) v (valid_points n (b % 32) (bits_valid n b bs p))))
    go true v =
        let pts : Points n (b % 32) = points_valid n b v in
        done pts (ih (b % 32) e pts (rw v at r) j (omega (arith, pts.ahead)))

known_fails_more : (n b : ℕ) (bs : List ℕ) → n + suc (length bs) ≡ 10 → Below (b ∷ bs) → KnownFails (n + 1) bs → KnownFails n (b ∷ bs)
known_fails_more n b bs l below ih q e pts r j w = go (known_octet q n b bs) j w
  where
    Out : ℕ → Type 0
    Out j = ((Code j (b ∷ bs) → ⊥) × (e ≡ ReservedCode (q % 16))) ⊎ (Code j (b ∷ bs) × (16 ≤ q) × Invalid (q % 16 + 1) (drop (suc j) (b ∷ bs)) e)

    go : KnownOctet q n b bs → (j : ℕ) → n + j ≡ q % 16 → Out j
    go (not_yet off s) zero w = absurd (off (omega arith))
    go (not_yet off s) (suc j) w = ih q e (points_more n q pts off) (fails (b / 32 + 8 * (get_or bs 0 0 % 32)) (reading (Control q) (n + 1) bs) e (sym s ∙ r)) j (omega arith)
    go (last_control hit code low s) j w = let z : ◌≡◌ {A = ℕ} 0 1 = cc (s, r) in absurd (omega arith)
    go (earlier_control hit code big s) zero w =
        let i : Invalid (n + 1) bs e = due_fails (n + 1) bs (omega arith) (omega (arith, pts.last, pts.small, pts.inside)) (λ k i. below (suc k) (suc-le-suc i)) ih e (fails (256 + turned (b / 32)) (reading Pointer (n + 1) bs) e (sym s ∙ r)) in
        inr (code, big, (rw hit i))
    go (earlier_control hit code big s) (suc j) w = absurd (omega arith)
    go (reserved hit none s) zero w =
        let told : ReservedCode n ≡ e = cc (s, r) in
        inl (none, sym told ∙ ap ReservedCode (sym hit))
    go (reserved hit none s) (suc j) w = absurd (omega arith)

known_fails : (n : ℕ) (bs : List ℕ) → n + length bs ≡ 10 → Below bs → KnownFails n bs
known_fails n [] l h = λ q e pts r. absurd (omega (arith, pts.ahead, pts.inside))
known_fails n (b ∷ bs) l h = known_fails_more n b bs l h (known_fails (n + 1) bs (omega arith) (λ k i. h (suc k) (suc-le-suc i)))

-- the first invalid field of a block that does not read
pub invalid_field : (h : ℕ) (bs : List ℕ) (e : BlockFault) → h < 2 → length bs ≡ 10 → Below bs → reading (starts h) 0 bs ≡ Err e → InvalidField (h ∷ bs) (block_refusal e)
invalid_field zero bs e l t b r = let z : ◌≡◌ {A = ℕ} 0 1 = cc (back_nothing 0 0 bs) in absurd (omega arith)
invalid_field (suc zero) bs e l t b r = field_invalid refl (due_fails 0 bs t' (omega arith) b (known_fails 0 bs t' b) e r)
  where
    t' : 0 + length bs ≡ 10
    t' = omega arith
invalid_field (suc (suc h)) bs e l t b r = absurd (omega arith)

-- a block that does not read encodes no characters
pub none_read : (block ds : List ℕ) (e : BlockFault) → reading (starts (get_or block 0 0)) 0 (drop 1 block) ≡ Err e → Encodes block ds → ⊥
none_read block ds e r d =
    let s : reading (starts (get_or block 0 0)) 0 (drop 1 block) ≡ Ok ds = rw d.makes (reads_back ds d.ten d.characters) in
    let z : ◌≡◌ {A = ℕ} 0 1 = cc in
    omega arith

pub none_headed : (block ds : List ℕ) → 1 < get_or block 0 0 → Encodes block ds → ⊥
none_headed block ds h d =
    let s : get_or block 0 0 ≡ header (pointer 0 ds) = ap (λ l. get_or l 0 0) (d.makes ∙ block_line ds d.ten) in
    go (pointer 0 ds) refl s
  where
    go : (o : Option ℕ) → pointer 0 ds ≡ o → get_or block 0 0 ≡ header (pointer 0 ds) → ⊥
    go None f s = omega (arith, s ∙ ap header f)
    go (Some p) f s = omega (arith, s ∙ ap header f)

-- both, as the reading call has them

abbrev pub Octets : List ℕ → Type 0
Octets bs = (k : ℕ) → get_or bs k 0 < 256

abbrev pub Refused : List ℕ → BlockFault → Type 0
Refused block e = InvalidField block (block_refusal e) × EncodesNone block

pub refused : (block : List ℕ) (first : Ahead) (e : BlockFault) → length block ≡ 11 → Octets block → get_or block 0 0 < 2 → first ≡ starts (get_or block 0 0) → Err e ≡ reading first 0 (drop 1 block) → Refused block e
refused [] first e h o l f r = absurd (omega arith)
refused (b ∷ bs) first e h o l f r =
    let s : reading (starts b) 0 bs ≡ Err e = sym (r ∙ ap (λ a. reading a 0 bs) f) in
    (invalid_field b bs e l (omega arith) (λ i _. o (suc i)) s, λ ds d. none_read (b ∷ bs) ds e s d)

pub encoded : (block cs : List ℕ) (first : Ahead) → length block ≡ 11 → Octets block → get_or block 0 0 < 2 → first ≡ starts (get_or block 0 0) → Ok cs ≡ reading first 0 (drop 1 block) → EncodesOnly block cs
encoded [] cs first h o l f r = absurd (omega arith)
encoded (b ∷ bs) cs first h o l f r =
    let s : reading (starts b) 0 bs ≡ Ok cs = sym (r ∙ ap (λ a. reading a 0 bs) f) in
    (makes_block b bs cs l (omega arith) (λ i _. o (suc i)) s, λ ds d. only_those (b ∷ bs) cs ds s d)

pub decoded : {U A : Type 0} (number_of : A → ℕ) (block payload : List ℕ) (first : Ahead) (ten : List A) (r : Result U BlockFault) → length block ≡ 11 → Octets block → get_or block 0 0 < 2 → first ≡ starts (get_or block 0 0) → payload ≡ drop 1 block → MatchResult r (λ _. reading first 0 payload ≡ Ok (map number_of ten)) (λ e. reading first 0 payload ≡ Err e) → MatchResult r (λ _. EncodesOnly block (map number_of ten)) (Refused block)
decoded number_of block payload first ten (Ok x) h o l f p e = encoded block (map number_of ten) first h o l f (sym e ∙ ap (reading first 0) p)
decoded number_of block payload first ten (Err e) h o l f p s = refused block first e h o l f (sym s ∙ ap (reading first 0) p)

-- what the header says

header_refused : (block : List ℕ) (h : ℕ) (e : BlockFault) → h ≡ get_or block 0 0 → Err e ≡ started h → Refused block e
header_refused block zero e g s = let z : ◌≡◌ {A = ℕ} 0 1 = cc in absurd (omega arith)
header_refused block (suc zero) e g s = let z : ◌≡◌ {A = ℕ} 0 1 = cc in absurd (omega arith)
header_refused block (suc (suc h)) e g s =
    let big : 1 < get_or block 0 0 = omega arith in
    let f : InvalidPointer zero ≡ e = cc in
    subst (Refused block) f (header_invalid big, λ ds d. none_headed block ds big d)

pub head_refused : (block : List ℕ) (e : BlockFault) → Err e ≡ started (get_or block 0 0) → Refused block e
head_refused block e s = header_refused block (get_or block 0 0) e refl s

pub started_well : (h : ℕ) (first : Ahead) → Ok first ≡ started h → (h < 2) × (first ≡ starts h)
started_well zero first s = (omega arith, cc)
started_well (suc zero) first s = (omega arith, cc)
started_well (suc (suc h)) first s = let z : ◌≡◌ {A = ℕ} 0 1 = cc in absurd (omega arith)
