-- A block that encodes characters has no invalid field.
use Rattle.std.proofs.Common.{◌≡◌, ℕ, zero, suc, ◌+◌, ◌-◌, ◌*◌, ◌/◌, ◌%◌, ◌<◌, ◌≤◌, Bool, true, false, List, [], ◌∷◌, length, get_or, drop, Ok, sym, refl, ap, ◌∙◌, subst, arith, length-drop}
use Rattle.std.proofs.lemmas.List.{get_or-drop}
use Rattle.blocks.specs.Characters as characters
use Rattle.blocks.specs.Bits.{unpacked}
use Rattle.refusal.specs.declared.kinds.Refusal.{Refusal}
use Rattle.blocks.specs.Blocks.{pointer, header, position, more, from_code, coded, ValidPointer, InvalidFrom, pointer_invalid, code_invalid, later, InvalidField, header_invalid, field_invalid, Encodes}
use Rattle.blocks.specs.Steps.{line, turned, valid, reading}
use Rattle.blocks.specs.declared.ahead.Ahead.TheVariants.{Pointer, Control}
use Rattle.blocks.proofs.Octets.{Points, points_more, block_line}
use Rattle.blocks.proofs.Inverse.{Below, points_valid, apart, KnownOctet, not_yet, last_control, earlier_control, reserved, known_octet, starts, reads_back}
use Rattle.blocks.proofs.Invalid.{Code, Octets, position_is, more_is, coded_is, on_is, valid_bits, none_headed}

-- a reading that goes well meets no invalid field

abbrev Well : ℕ → List ℕ → ℕ → Type 0
Well n bs q = (j : ℕ) → n + j ≡ q % 16 → Code j bs × (16 ≤ q → (ds : List ℕ) × (reading Pointer (q % 16 + 1) (drop (suc j) bs) ≡ Ok ds))

known_well : (n : ℕ) (bs cs : List ℕ) (q : ℕ) → n + length bs ≡ 10 → Points n q → reading (Control q) n bs ≡ Ok cs → Well n bs q
known_well n [] cs q l pts r = absurd (omega (arith, pts.ahead, pts.inside))
known_well n (b ∷ bs) cs q l pts r = go (known_octet q n b bs) (λ ds off s. known_well (n + 1) bs ds q (omega arith) (points_more n q pts off) s)
  where
    Out : ℕ → Type 0
    Out j = Code j (b ∷ bs) × (16 ≤ q → (ds : List ℕ) × (reading Pointer (q % 16 + 1) (drop (suc j) (b ∷ bs)) ≡ Ok ds))

    go : KnownOctet q n b bs → ((ds : List ℕ) → (q % 16 ≡ n → ⊥) → reading (Control q) (n + 1) bs ≡ Ok ds → Well (n + 1) bs q) → (j : ℕ) → n + j ≡ q % 16 → Out j
    go (not_yet off s) ih zero w = absurd (off (omega arith))
    go (not_yet off s) ih (suc j) w =
        let a = apart (b / 32 + 8 * (get_or bs 0 0 % 32)) (reading (Control q) (n + 1) bs) cs (sym s ∙ r) in
        ih a.0 off a.1 j (omega arith)
    go (last_control hit code low s) ih zero w = (code, λ big. absurd (omega arith))
    go (last_control hit code low s) ih (suc j) w = absurd (omega arith)
    go (earlier_control hit code big s) ih zero w = (code, λ _. let a = apart (256 + turned (b / 32)) (reading Pointer (n + 1) bs) cs (sym s ∙ r) in (a.0, rw hit a.1))
    go (earlier_control hit code big s) ih (suc j) w = absurd (omega arith)
    go (reserved hit none s) ih j w = let z : ◌≡◌ {A = ℕ} 0 1 = cc (s, r) in absurd (omega arith)

due_well : (n b : ℕ) (bs cs : List ℕ) → n + suc (length bs) ≡ 10 → reading Pointer n (b ∷ bs) ≡ Ok cs → Points n (b % 32) × Well n (b ∷ bs) (b % 32)
unfolding reading
due_well n b bs cs l r = go (valid n (b % 32)) refl
  where
    go : (t : Bool) → valid n (b % 32) ≡ t → Points n (b % 32) × Well n (b ∷ bs) (b % 32)
    go true v = let pts : Points n (b % 32) = points_valid n b v in (pts, known_well n (b ∷ bs) cs (b % 32) l pts (rw v at r))
    go false v = let z : ◌≡◌ {A = ℕ} 0 1 = cc (rw v at r) in absurd (omega arith)

below_drop : (n : ℕ) (bs : List ℕ) → Below bs → Below (drop n bs)
below_drop n bs h = λ k l. rw (get_or-drop n bs k 0) (h (n + k) (omega (arith, length-drop n bs)))

module _ (n b : ℕ) (bs cs us : List ℕ) (u : us ≡ unpacked 8 (b ∷ bs)) (l : n + suc (length bs) ≡ 10) (below : Below (b ∷ bs)) (r : reading Pointer n (b ∷ bs) ≡ Ok cs) where
  j : ℕ
  j = b % 32 % 16 - n

  pts : Points n (b % 32)
  pts = (due_well n b bs cs l r).0

  at_position : position us ≡ b % 32 % 16
  at_position = ap position u ∙ position_is b bs ∙ omega arith

  at_j : position (unpacked 8 (b ∷ bs)) - n ≡ j
  unfolding j
  at_j = ap (λ x. x - n) (ap position (sym u) ∙ at_position)

  in_j : j < length (b ∷ bs)
  unfolding j
  in_j = omega (arith, pts.inside, pts.ahead)

  well : Code j (b ∷ bs) × (16 ≤ b % 32 → (ds : List ℕ) × (reading Pointer (b % 32 % 16 + 1) (drop (suc j) (b ∷ bs)) ≡ Ok ds))
  unfolding j
  well = (due_well n b bs cs l r).1 j (omega (arith, pts.ahead))

  well_coded : characters.Control (coded n us)
  well_coded = subst characters.Control (sym (ap (coded n) u ∙ coded_is n j (b ∷ bs) at_j in_j below)) well.0

  well_pointed : ValidPointer n us
  well_pointed = subst (ValidPointer n) (sym u) (valid_bits n b bs pts)

  well_on : drop 3 (from_code n us) ≡ unpacked 8 (drop (suc j) (b ∷ bs))
  well_on = ap (λ x. drop 3 (from_code n x)) u ∙ on_is n j (b ∷ bs) at_j in_j

  big : more us ≡ 1 → 16 ≤ b % 32
  big m = omega (arith, sym (ap more u ∙ more_is b bs) ∙ m)

  well_later : (m : more us ≡ 1) → (ds : List ℕ) × (reading Pointer (position us + 1) (drop (suc j) (b ∷ bs)) ≡ Ok ds)
  well_later m = let w = well.1 (big m) in (w.0, rw at_position w.1)

  well_long : position us + 1 + length (drop (suc j) (b ∷ bs)) ≡ 10
  unfolding j
  well_long = omega (arith, length-drop (suc (b % 32 % 16 - n)) (b ∷ bs), at_position, pts.ahead, pts.inside)

  well_inside : more us ≡ 1 → position us + 1 < 10
  well_inside m = omega (arith, at_position, pts.last, pts.inside, big m)

none_invalid : {n : ℕ} {us : List ℕ} {why : Refusal} → InvalidFrom n us why → (bs cs : List ℕ) → us ≡ unpacked 8 bs → n + length bs ≡ 10 → n < 10 → Below bs → reading Pointer n bs ≡ Ok cs → ⊥
none_invalid (pointer_invalid v) [] cs u l h below r = omega arith
none_invalid (code_invalid v c) [] cs u l h below r = omega arith
none_invalid (later v c m i) [] cs u l h below r = omega arith
none_invalid (pointer_invalid {n} {bs = us} v) (b ∷ bs) cs u l h below r = v (well_pointed n b bs cs us u l below r)
none_invalid (code_invalid {n} {bs = us} v c) (b ∷ bs) cs u l h below r = c (well_coded n b bs cs us u l below r)
none_invalid (later {n} {bs = us} v c m i) (b ∷ bs) cs u l h below r =
    let w = well_later n b bs cs us u l below r m in
    none_invalid i (drop (suc (j n b bs cs us u l below r)) (b ∷ bs)) w.0 (well_on n b bs cs us u l below r) (well_long n b bs cs us u l below r) (well_inside n b bs cs us u l below r m) (below_drop (suc (j n b bs cs us u l below r)) (b ∷ bs) below) w.1

length_line : (before n : ℕ) (cs : List ℕ) → length (line before n cs) ≡ length cs
unfolding line
length_line before n [] = refl
length_line before n (c ∷ cs) = ap suc (length_line c (n + 1) cs)

pub never_both : (block cs : List ℕ) (why : Refusal) → Octets block → Encodes block cs → InvalidField block why → ⊥
never_both block cs why o d (header_invalid h) = none_headed block cs h d
never_both [] cs why o d (field_invalid h i) = omega arith
never_both (b ∷ bs) cs why o d (field_invalid h i) =
    let e : b ∷ bs ≡ header (pointer 0 cs) ∷ line 256 0 cs = d.makes ∙ block_line cs d.ten in
    let ten : length bs ≡ 10 = ap (λ x. length (drop 1 x)) e ∙ length_line 256 0 cs ∙ d.ten in
    let r : reading (starts b) 0 bs ≡ Ok cs = ap (λ x. reading (starts (get_or x 0 0)) 0 (drop 1 x)) d.makes ∙ reads_back cs d.ten d.characters in
    none_invalid i bs cs refl (omega arith) (omega arith) (λ k _. o (suc k)) (ap (λ x. reading (starts x) 0 bs) (sym h) ∙ r)
