-- The fields' bits, octet by octet.
use Rattle.std.proofs.Common.{◌≡◌, ℕ, suc, ◌+◌, ◌-◌, ◌*◌, ◌/◌, ◌%◌, ◌<◌, ◌≤◌, Bool, true, false, cond, List, [], ◌∷◌, ◌++◌, reverse, length, Some, None, Option, sym, refl, ap, ◌∙◌, suc-le-suc, zero-le, arith}
use Rattle.std.proofs.lemmas.Nat.{field_of, shr-shr}
use Rattle.std.proofs.lemmas.Bool.{ltb-true, ltb-false}
use Rattle.blocks.specs.Characters.{Character, Characters, is_control}
use Rattle.blocks.specs.Bits.{bits, number, packed}
use Rattle.blocks.specs.Blocks.{pointer, marked, fields, block_of, header}
use Rattle.blocks.specs.Steps.{turned, octet, line}

-- characters

pub first : (c : ℕ) (cs : List ℕ) → Characters (c ∷ cs) → Character c
first c cs h = h 0 (suc-le-suc zero-le)

pub rest : (c : ℕ) (cs : List ℕ) → Characters (c ∷ cs) → Characters cs
rest c cs h = λ k l. h (suc k) (suc-le-suc l)

pub data_below : (c : ℕ) → is_control c ≡ false → c < 256
data_below c e = omega (arith, ltb-false 255 c e)

-- one octet of bits

pub whole : (c m : ℕ) (bs : List ℕ) → c < 256 → packed 8 (suc m) (bits 8 c ++ bs) ≡ c ∷ packed 8 m bs
unfolding packed bits number
whole c m bs h = ap (λ x. x ∷ packed 8 m bs) (omega arith)

second : (c : ℕ) → c % 8 / 2 % 2 ≡ c / 2 % 2
second c = ap (λ x. x % 2) (field_of c 2 1) ∙ again (c / 2)
  where
    again : (x : ℕ) → x % 4 % 2 ≡ x % 2
    again x = omega arith

third : (c : ℕ) → c % 8 / 4 ≡ c / 2 / 2 % 2
third c = field_of c 1 2 ∙ ap (λ x. x % 2) (sym (shr-shr c 1 1))

pub head_control : (low c m : ℕ) (bs : List ℕ) → low < 32 → packed 8 (suc m) (bits 5 low ++ (reverse (bits 3 c) ++ bs)) ≡ (low + 32 * turned (c % 8)) ∷ packed 8 m bs
unfolding packed bits number
head_control low c m bs h =
    let one : c % 8 % 2 ≡ c % 2 = omega arith in
    let two : c % 8 / 2 % 2 ≡ c / 2 % 2 = second c in
    let four : c % 8 / 4 ≡ c / 2 / 2 % 2 = third c in
    rw (one, two, four) (ap (λ x. x ∷ packed 8 m bs) (omega arith))

five : (c : ℕ) → c / 2 / 2 / 2 ≡ c / 8
five c = omega arith

pub head_data : (low c m : ℕ) (bs : List ℕ) → low < 32 → packed 8 (suc m) (bits 5 low ++ (bits 8 c ++ bs)) ≡ (low + 32 * (c % 8)) ∷ packed 8 m (bits 5 (c / 8) ++ bs)
unfolding packed bits number
head_data low c m bs h = rw (← five c) (ap (λ x. x ∷ packed 8 m (bits 5 (c / 2 / 2 / 2) ++ bs)) (omega arith))

-- pointers

pub pointer_control : (n c : ℕ) (cs : List ℕ) → is_control c ≡ true → pointer n (c ∷ cs) ≡ Some (n + marked (pointer (n + 1) cs))
unfolding pointer
pointer_control n c cs e = rw e

pub pointer_data : (n c : ℕ) (cs : List ℕ) → is_control c ≡ false → pointer n (c ∷ cs) ≡ pointer (n + 1) cs
unfolding pointer
pointer_data n c cs e = rw e

pub pointer_nil : (n p : ℕ) → pointer n [] ≡ Some p → ⊥
unfolding pointer
pointer_nil n p e = let z : ◌≡◌ {A = ℕ} 0 1 = cc in omega arith

-- fields

pub fields_control : (n c : ℕ) (cs : List ℕ) → is_control c ≡ true → fields false n (c ∷ cs) ≡ reverse (bits 3 (c - 256)) ++ fields true (n + 1) cs
unfolding fields
fields_control n c cs e = rw e

pub fields_data : (n c : ℕ) (cs : List ℕ) → is_control c ≡ false → fields false n (c ∷ cs) ≡ bits 8 c ++ fields false (n + 1) cs
unfolding fields
fields_data n c cs e = rw e

pub fields_some : (n p : ℕ) (cs : List ℕ) → pointer n cs ≡ Some p → fields true n cs ≡ bits 5 p ++ fields false n cs
unfolding fields pointer
fields_some n p [] e = absurd (pointer_nil n p e)
fields_some n p (c ∷ cs) e = rw e

pub fields_none : (n : ℕ) (due : Bool) (cs : List ℕ) → pointer n cs ≡ None → fields due n cs ≡ fields false n cs
unfolding fields pointer
fields_none n due [] e = refl
fields_none n false (c ∷ cs) e = refl
fields_none n true (c ∷ cs) e = rw e

-- lines

pub line_more : (before n c : ℕ) (cs : List ℕ) → line before n (c ∷ cs) ≡ octet before (pointer n (c ∷ cs)) c ∷ line c (n + 1) cs
unfolding line
line_more before n c cs = refl

pub line_none : (before n : ℕ) (cs : List ℕ) → pointer n cs ≡ None → line before n cs ≡ cs
unfolding line
line_none before n [] e = refl
line_none before n (c ∷ cs) e = go (is_control c) refl (line_none c (n + 1) cs)
  where
    go : (b : Bool) → is_control c ≡ b → (pointer (n + 1) cs ≡ None → line c (n + 1) cs ≡ cs) → octet before (pointer n (c ∷ cs)) c ∷ line c (n + 1) cs ≡ c ∷ cs
    go true f ih = let z : ◌≡◌ {A = ℕ} 0 1 = cc (pointer_control n c cs f, e) in absurd (omega arith)
    go false f ih = rw e (ap (λ l. c ∷ l) (ih (sym (pointer_data n c cs f) ∙ e)))

pub plain : (n : ℕ) (cs : List ℕ) → pointer n cs ≡ None → packed 8 (length cs) (fields false n cs) ≡ cs
unfolding packed fields
plain n [] e = refl
plain n (c ∷ cs) e = go (is_control c) refl (plain (n + 1) cs)
  where
    go : (b : Bool) → is_control c ≡ b → (pointer (n + 1) cs ≡ None → packed 8 (length cs) (fields false (n + 1) cs) ≡ cs) → packed 8 (suc (length cs)) (fields false n (c ∷ cs)) ≡ c ∷ cs
    go true f ih = let z : ◌≡◌ {A = ℕ} 0 1 = cc (pointer_control n c cs f, e) in absurd (omega arith)
    go false f ih = ap (packed 8 (suc (length cs))) (fields_data n c cs f) ∙ whole c (length cs) (fields false (n + 1) cs) (data_below c f) ∙ ap (λ l. c ∷ l) (ih (sym (pointer_data n c cs f) ∙ e))

-- the bits of a pointer are those of a number below 32, and it names an octet that is ahead

pub record Points (n p : ℕ) : Type 0 where
  pub ahead : n ≤ p % 16
  pub inside : p % 16 < 10
  pub last : p ≡ 25 → ⊥
  pub small : p < 32

-- a pointer that does not name octet n is ahead from octet n + 1 too
pub points_more : (n p : ℕ) → Points n p → (p % 16 ≡ n → ⊥) → Points (n + 1) p
points_more n p h off = record { ahead = omega (arith, h.ahead); inside = h.inside; last = h.last; small = h.small }

pub points : (n p : ℕ) (cs : List ℕ) → pointer n cs ≡ Some p → n + length cs ≤ 10 → Points n p
points n p [] e h = absurd (pointer_nil n p e)
points n p (c ∷ cs) e h = go (is_control c) refl (pointer (n + 1) cs) refl (λ q f. points (n + 1) q cs f (omega arith))
  where
    go : (b : Bool) → is_control c ≡ b → (o : Option ℕ) → pointer (n + 1) cs ≡ o → ((q : ℕ) → pointer (n + 1) cs ≡ Some q → Points (n + 1) q) → Points n p
    go true f None g ih =
        let s : n + marked None ≡ p = cc (pointer_control n c cs f, e, ap marked g) in
        record { ahead = omega arith; inside = omega arith; last = omega arith; small = omega arith }
    go true f (Some q) g ih =
        let s : n + marked (Some q) ≡ p = cc (pointer_control n c cs f, e, ap marked g) in
        let r = ih q g in
        record { ahead = omega arith; inside = omega arith; last = omega arith; small = omega arith }
    go false f o g ih =
        let r = ih p (sym (pointer_data n c cs f) ∙ e) in
        record { ahead = omega arith; inside = omega arith; last = omega arith; small = omega arith }

-- a line of characters among which there is a control, after the five low bits of its first octet

abbrev pub Packs : ℕ → List ℕ → Type 0
Packs n cs = (low p : ℕ) → pointer n cs ≡ Some p → low < 32 → (before : ℕ) → cond (is_control before) p (before / 8) ≡ low → packed 8 (length cs) (bits 5 low ++ fields false n cs) ≡ line before n cs

packs_data : (n c : ℕ) (cs : List ℕ) → is_control c ≡ false → Packs (n + 1) cs → Packs n (c ∷ cs)
packs_data n c cs f ih low p e h before w =
    ap (λ l. packed 8 (suc (length cs)) (bits 5 low ++ l)) (fields_data n c cs f)
    ∙ head_data low c (length cs) (fields false (n + 1) cs) h
    ∙ ap (λ l. (low + 32 * (c % 8)) ∷ l) (ih (c / 8) p (sym (pointer_data n c cs f) ∙ e) (omega (arith, data_below c f)) c (rw f))
    ∙ sym (line_more before n c cs ∙ ap (λ o. octet before o c ∷ line c (n + 1) cs) e ∙ rw (w, f))

packs_control : (n c : ℕ) (cs : List ℕ) → is_control c ≡ true → n + suc (length cs) ≤ 10 → Packs (n + 1) cs → Packs n (c ∷ cs)
packs_control n c cs f b ih low p e h before w =
    ap (λ l. packed 8 (suc (length cs)) (bits 5 low ++ l)) (fields_control n c cs f)
    ∙ head_control low (c - 256) (length cs) (fields true (n + 1) cs) h
    ∙ ap (λ x. (low + 32 * turned x) ∷ packed 8 (length cs) (fields true (n + 1) cs)) (code c (ltb-true 255 c f))
    ∙ ap (λ l. (low + 32 * turned (c % 8)) ∷ l) (go (pointer (n + 1) cs) refl)
    ∙ sym (line_more before n c cs ∙ ap (λ o. octet before o c ∷ line c (n + 1) cs) e ∙ rw (w, f))
  where
    code : (c : ℕ) → 255 < c → (c - 256) % 8 ≡ c % 8
    code c b = omega arith

    go : (o : Option ℕ) → pointer (n + 1) cs ≡ o → packed 8 (length cs) (fields true (n + 1) cs) ≡ line c (n + 1) cs
    go None g = ap (packed 8 (length cs)) (fields_none (n + 1) true cs g) ∙ plain (n + 1) cs g ∙ sym (line_none c (n + 1) cs g)
    go (Some q) g = ap (packed 8 (length cs)) (fields_some (n + 1) q cs g) ∙ ih q q g (points (n + 1) q cs g (omega arith)).small c (rw f)

pub packs : (n : ℕ) (cs : List ℕ) → n + length cs ≤ 10 → Packs n cs
packs n [] b = λ low p e h before w. absurd (pointer_nil n p e)
packs n (c ∷ cs) b = go (is_control c) refl (packs (n + 1) cs (omega arith))
  where
    go : (t : Bool) → is_control c ≡ t → Packs (n + 1) cs → Packs n (c ∷ cs)
    go true f ih = packs_control n c cs f b ih
    go false f ih = packs_data n c cs f ih

-- the block that ten characters make, by octets

pub block_line : (cs : List ℕ) → length cs ≡ 10 → block_of cs ≡ header (pointer 0 cs) ∷ line 256 0 cs
unfolding block_of
block_line cs h = ap (λ l. header (pointer 0 cs) ∷ l) (ap (λ n. packed 8 n (fields true 0 cs)) (sym h) ∙ go (pointer 0 cs) refl)
  where
    go : (o : Option ℕ) → pointer 0 cs ≡ o → packed 8 (length cs) (fields true 0 cs) ≡ line 256 0 cs
    go None g = ap (packed 8 (length cs)) (fields_none 0 true cs g) ∙ plain 0 cs g ∙ sym (line_none 256 0 cs g)
    go (Some q) g = ap (packed 8 (length cs)) (fields_some 0 q cs g) ∙ packs 0 cs (omega arith) q q g (points 0 q cs g (omega arith)).small 256 refl
