-- Reading gives back what was written, and what is read makes the block.
use Rattle.std.proofs.Common.{◌≡◌, ℕ, zero, suc, ◌+◌, ◌*◌, ◌/◌, ◌%◌, ◌<◌, ◌≤◌, Bool, true, false, cond, eqb, ltb, List, [], ◌∷◌, length, get_or, drop, Some, None, Ok, Err, Option, Result, sym, refl, ap, ◌∙◌, subst, inl, inr, suc-le-suc, zero-le, arith}
use Rattle.std.proofs.lemmas.Bool.{ltb-true, ltb-false, lt-ltb, le-ltb, eqb-true, eqb-false, eq-eqb, ne_eqb, le-leb, leb-true, and_parts, and_from, not-true, not_from_false, both_ways}
use Rattle.std.proofs.lemmas.Bool.Decides.{nat_tests}
use Rattle.blocks.specs.Characters.{Character, Characters, is_control}
use Rattle.blocks.specs.Characters as characters
use Rattle.blocks.specs.Blocks.{pointer, marked, block_of, header, Encodes}
use Rattle.blocks.specs.Steps.{turned, top, octet, line, is_character, read_at, valid, stepped, before_all, onward, reading}
use Rattle.blocks.specs.declared.faults.BlockFault.{BlockFault}
use Rattle.blocks.specs.declared.faults.BlockFault.TheVariants.{ReservedCode}
use Rattle.blocks.specs.declared.ahead.Ahead.{Ahead}
use Rattle.blocks.specs.declared.ahead.Ahead.TheVariants.{Pointer, Control, Nothing}
use Rattle.blocks.proofs.Octets.{first, rest, data_below, pointer_control, pointer_data, pointer_nil, line_more, line_none, Points, points_more, points, block_line}

-- characters by test

pub allowed_from : (c : ℕ) → Character c → is_character c ≡ true
allowed_from c (inl h) = grind (arith, nat_tests)
allowed_from c (inr (inl h)) = grind (arith, nat_tests)
allowed_from c (inr (inr (inl h))) = grind (arith, nat_tests)
allowed_from c (inr (inr (inr (inl h)))) = grind (arith, nat_tests)
allowed_from c (inr (inr (inr (inr h)))) = grind (arith, nat_tests)

pub from_allowed : (c : ℕ) → is_character c ≡ true → Character c
from_allowed c e = grind (arith, nat_tests)

pub is_control_from : (c : ℕ) → is_control c ≡ true → Character c → characters.Control c
is_control_from c e (inl h) = absurd (omega (arith, ltb-true 255 c e))
is_control_from c e (inr h) = h

turned_small : (t : ℕ) → t < 8 → turned t < 8
turned_small t h = omega arith

pub turned_back : (t : ℕ) → t < 8 → turned (turned t) ≡ t
turned_back zero h = refl
turned_back (suc zero) h = refl
turned_back (suc (suc zero)) h = refl
turned_back (suc (suc (suc zero))) h = refl
turned_back (suc (suc (suc (suc zero)))) h = refl
turned_back (suc (suc (suc (suc (suc zero))))) h = refl
turned_back (suc (suc (suc (suc (suc (suc zero)))))) h = refl
turned_back (suc (suc (suc (suc (suc (suc (suc zero))))))) h = refl
turned_back (suc (suc (suc (suc (suc (suc (suc (suc t)))))))) h = absurd (omega arith)

code_back : (c : ℕ) → characters.Control c → 256 + turned (turned (c % 8)) ≡ c
code_back c h = ap (λ x. 256 + x) (turned_back (c % 8) (omega arith)) ∙ omega (arith, h)

-- what an octet holds

low_small : (before n p : ℕ) → Points n p → cond (is_control before) p (before / 8) < 32
low_small before n p h = go (is_control before) refl
  where
    go : (b : Bool) → is_control before ≡ b → cond (is_control before) p (before / 8) < 32
    go true f = rw f h.small
    go false f = rw f (omega (arith, data_below before f))

-- lines are read back

pub back_nothing : (before n : ℕ) (cs : List ℕ) → reading Nothing n cs ≡ Ok cs
unfolding reading
back_nothing before n [] = refl
back_nothing before n (c ∷ cs) = rw (back_nothing before (n + 1) cs)

-- what waits at octet n, after the character before it, for the pointer p
data Waits (before p : ℕ) : Ahead → Type 0 where
  due : is_control before ≡ true → Waits before p Pointer
  known : is_control before ≡ false → Waits before p (Control p)

pub valid_points : (n p : ℕ) → Points n p → valid n p ≡ true
valid_points n p h = and_from _ _ (le-leb n (p % 16) h.ahead) (and_from _ _ (lt-ltb (p % 16) 10 h.inside) (not_from_false _ (ne_eqb p 25 h.last)))

-- with the pointer known or just read, one octet is read in one way
enter : (before n p c next : ℕ) (a : Ahead) → Points n p → Waits before p a → stepped a n (octet before (Some p) c) next ≡ read_at p n (octet before (Some p) c) next
enter before n p c next Pointer h (due f) =
    let same : octet before (Some p) c % 32 ≡ p = rw f (omega (arith, h.small)) in
    rw (same, valid_points n p h)
enter before n p c next (Control q) h (known f) = refl
enter before n p c next Nothing h w = elim w [ ]

high : (before n p c : ℕ) → Points n p → octet before (Some p) c / 32 ≡ top c
high before n p c h = omega (arith, low_small before n p h)

abbrev Back : ℕ → List ℕ → Type 0
Back n cs = (p before : ℕ) (a : Ahead) → pointer n cs ≡ Some p → Waits before p a → reading a n (line before n cs) ≡ Ok cs

head_low : (n p c : ℕ) (cs : List ℕ) → pointer n cs ≡ Some p → is_control c ≡ false → get_or (line c n cs) 0 0 % 32 ≡ c / 8
head_low n p c [] e f = absurd (pointer_nil n p e)
head_low n p c (d ∷ cs) e f = rw (line_more c n d cs, e, f) (omega (arith, data_below c f))

back_data : (n c : ℕ) (cs : List ℕ) → n + suc (length cs) ≤ 10 → is_control c ≡ false → Back (n + 1) cs → Back n (c ∷ cs)
unfolding reading
back_data n c cs l f ih p before a e w =
    let o : ℕ = octet before (Some p) c in
    let h : Points n p = points n p (c ∷ cs) e l in
    let e' : pointer (n + 1) cs ≡ Some p = sym (pointer_data n c cs f) ∙ e in
    let h' : Points (n + 1) p = points (n + 1) p cs e' (omega arith) in
    let off : eqb (p % 16) n ≡ false = ne_eqb (p % 16) n (omega arith) in
    let t : top c ≡ c % 8 = rw f in
    let same : o / 32 + 8 * (get_or (line c (n + 1) cs) 0 0 % 32) ≡ c = omega (arith, high before n p c h, t, head_low (n + 1) p c cs e' f) in
    ap (reading a n) (line_more before n c cs ∙ ap (λ x. octet before x c ∷ line c (n + 1) cs) e)
    ∙ ap (λ r. onward r (λ after. reading after (n + 1) (line c (n + 1) cs))) (enter before n p c (get_or (line c (n + 1) cs) 0 0) a h w ∙ (rw off) ∙ ap (λ x. Ok (x, Control p)) same)
    ∙ ap (before_all c) (ih p c (Control p) e' (known f))

back_control : (n c : ℕ) (cs : List ℕ) → n + suc (length cs) ≤ 10 → is_control c ≡ true → Character c → Back (n + 1) cs → Back n (c ∷ cs)
unfolding reading
back_control n c cs l f ch ih p before a e w =
    let o : ℕ = octet before (Some p) c in
    let h : Points n p = points n p (c ∷ cs) e l in
    let t : top c ≡ turned (c % 8) = rw f in
    let same : 256 + turned (o / 32) ≡ c = ap (λ x. 256 + turned x) (high before n p c h ∙ t) ∙ code_back c (is_control_from c f ch) in
    ap (reading a n) (line_more before n c cs ∙ ap (λ x. octet before x c ∷ line c (n + 1) cs) e)
    ∙ ap (λ r. onward r (λ after. reading after (n + 1) (line c (n + 1) cs))) (enter before n p c (get_or (line c (n + 1) cs) 0 0) a h w ∙ go (pointer (n + 1) cs) refl o same)
    ∙ ap (before_all c) (on (pointer (n + 1) cs) refl)
  where
    after : Option ℕ → Ahead
    after None = Nothing
    after (Some q) = Pointer

    go : (x : Option ℕ) → pointer (n + 1) cs ≡ x → (o : ℕ) → 256 + turned (o / 32) ≡ c → read_at p n o (get_or (line c (n + 1) cs) 0 0) ≡ Ok (c, after (pointer (n + 1) cs))
    go None g o same =
        let s : n + marked None ≡ p = cc (pointer_control n c cs f, e, ap marked g) in
        let hit : eqb (p % 16) n ≡ true = eq-eqb (p % 16) n (omega arith) in
        let low : ltb p 16 ≡ true = lt-ltb p 16 (omega arith) in
        rw (hit, same, allowed_from c ch, low, g)
    go (Some q) g o same =
        let s : n + marked (Some q) ≡ p = cc (pointer_control n c cs f, e, ap marked g) in
        let hit : eqb (p % 16) n ≡ true = eq-eqb (p % 16) n (omega arith) in
        let low : ltb p 16 ≡ false = le-ltb p 16 (omega arith) in
        rw (hit, same, allowed_from c ch, low, g)

    on : (x : Option ℕ) → pointer (n + 1) cs ≡ x → reading (after (pointer (n + 1) cs)) (n + 1) (line c (n + 1) cs) ≡ Ok cs
    on None g = rw (g, line_none c (n + 1) cs g) (back_nothing c (n + 1) cs)
    on (Some q) g = ap (λ x. reading (after x) (n + 1) (line c (n + 1) cs)) g ∙ ih q c Pointer g (due f)

back : (n : ℕ) (cs : List ℕ) → n + length cs ≤ 10 → Characters cs → Back n cs
back n [] l h = λ p before a e w. absurd (pointer_nil n p e)
back n (c ∷ cs) l h = go (is_control c) refl (back (n + 1) cs (omega arith) (rest c cs h))
  where
    go : (t : Bool) → is_control c ≡ t → Back (n + 1) cs → Back n (c ∷ cs)
    go true f ih = back_control n c cs l f (first c cs h) ih
    go false f ih = back_data n c cs l f ih

abbrev pub starts : ℕ → Ahead
starts zero = Nothing
starts (suc h) = Pointer

-- what ten characters make reads as those ten
pub reads_back : (cs : List ℕ) → length cs ≡ 10 → Characters cs → reading (starts (get_or (block_of cs) 0 0)) 0 (drop 1 (block_of cs)) ≡ Ok cs
reads_back cs l h = rw (block_line cs l) (go (pointer 0 cs) refl)
  where
    go : (o : Option ℕ) → pointer 0 cs ≡ o → reading (starts (header (pointer 0 cs))) 0 (line 256 0 cs) ≡ Ok cs
    go None g = rw (g, line_none 256 0 cs g) (back_nothing 256 0 cs)
    go (Some p) g = rw g (back 0 cs (omega arith) h p 256 Pointer g (due refl))

-- the other way: what is read makes the payload

pub apart : (c : ℕ) (r : Result (List ℕ) BlockFault) (cs : List ℕ) → before_all c r ≡ Ok cs → (ds : List ℕ) × (r ≡ Ok ds) × (c ∷ ds ≡ cs)
apart c (Ok ds) cs e = (ds, refl, cc)
apart c (Err x) cs e = let z : ◌≡◌ {A = ℕ} 0 1 = cc in absurd (omega arith)

-- octet n where the pointer q is known: before the octet that q names, or that octet: the last control, an earlier one, or no character
pub data KnownOctet (q n b : ℕ) (bs : List ℕ) : Type 0 where
  not_yet : (q % 16 ≡ n → ⊥) → reading (Control q) n (b ∷ bs) ≡ before_all (b / 32 + 8 * (get_or bs 0 0 % 32)) (reading (Control q) (n + 1) bs) → KnownOctet q n b bs
  last_control : q % 16 ≡ n → characters.Control (256 + turned (b / 32)) → q < 16 → reading (Control q) n (b ∷ bs) ≡ Ok ((256 + turned (b / 32)) ∷ bs) → KnownOctet q n b bs
  earlier_control : q % 16 ≡ n → characters.Control (256 + turned (b / 32)) → 16 ≤ q → reading (Control q) n (b ∷ bs) ≡ before_all (256 + turned (b / 32)) (reading Pointer (n + 1) bs) → KnownOctet q n b bs
  reserved : q % 16 ≡ n → (characters.Control (256 + turned (b / 32)) → ⊥) → reading (Control q) n (b ∷ bs) ≡ Err (ReservedCode n) → KnownOctet q n b bs

pub known_octet : (q n b : ℕ) (bs : List ℕ) → KnownOctet q n b bs
unfolding reading
known_octet q n b bs = go (eqb (q % 16) n) refl
  where
    at : (t u : Bool) → is_character (256 + turned (b / 32)) ≡ t → ltb q 16 ≡ u → eqb (q % 16) n ≡ true → KnownOctet q n b bs
    at true true g low f = last_control (eqb-true (q % 16) n f) (is_control_from _ (lt-ltb 255 (256 + turned (b / 32)) (omega arith)) (from_allowed _ g)) (ltb-true q 16 low) (rw (f, g, low, back_nothing 0 (n + 1) bs))
    at true false g low f = earlier_control (eqb-true (q % 16) n f) (is_control_from _ (lt-ltb 255 (256 + turned (b / 32)) (omega arith)) (from_allowed _ g)) (ltb-false q 16 low) (rw (f, g, low))
    at false u g low f = reserved (eqb-true (q % 16) n f) (λ h. both_ways _ g (allowed_from _ (inr h))) (rw (f, g))

    go : (t : Bool) → eqb (q % 16) n ≡ t → KnownOctet q n b bs
    go true f = at (is_character (256 + turned (b / 32))) (ltb q 16) refl refl f
    go false f = not_yet (eqb-false (q % 16) n f) (rw f)

pub record Makes (n q : ℕ) (bs cs : List ℕ) : Type 0 where
  pub pointed : pointer n cs ≡ Some q
  pub characters : Characters cs
  pub size : length cs ≡ length bs
  pub lines : (before : ℕ) → cond (is_control before) q (before / 8) ≡ get_or bs 0 0 % 32 → line before n cs ≡ bs

abbrev pub Below : List ℕ → Type 0
Below bs = (k : ℕ) → k < length bs → get_or bs k 0 < 256

abbrev Known : ℕ → List ℕ → Type 0
Known n bs = (q : ℕ) (cs : List ℕ) → Points n q → reading (Control q) n bs ≡ Ok cs → Makes n q bs cs

abbrev Due : ℕ → List ℕ → Type 0
Due n bs = (cs : List ℕ) → reading Pointer n bs ≡ Ok cs → Makes n (get_or bs 0 0 % 32) bs cs

pub points_valid : (n b : ℕ) → valid n (b % 32) ≡ true → Points n (b % 32)
points_valid n b e =
    let p = and_parts _ _ e in
    let q = and_parts _ _ p.1 in
    record { ahead = leb-true n (b % 32 % 16) p.0; inside = ltb-true (b % 32 % 16) 10 q.0; last = eqb-false (b % 32) 25 (not-true _ q.1); small = omega arith }

due_known : (n : ℕ) (bs : List ℕ) → n + length bs ≡ 10 → n < 10 → Known n bs → Due n bs
unfolding reading
due_known n [] l h ih cs e = absurd (omega arith)
due_known n (b ∷ bs) l h ih cs e = go (valid n (b % 32)) refl
  where
    go : (t : Bool) → valid n (b % 32) ≡ t → Makes n (b % 32) (b ∷ bs) cs
    go true v = ih (b % 32) cs (points_valid n b v) (rw v at e)
    go false v = let z : ◌≡◌ {A = ℕ} 0 1 = cc (rw v at e) in absurd (omega arith)

characters_more : (c : ℕ) (cs : List ℕ) → Character c → Characters cs → Characters (c ∷ cs)
characters_more c cs h hs zero l = h
characters_more c cs h hs (suc k) l = hs k (omega arith)

pub none_below : (n : ℕ) (bs : List ℕ) → Below bs → pointer n bs ≡ None
unfolding pointer
none_below n [] h = refl
none_below n (b ∷ bs) h =
    let f : is_control b ≡ false = le-ltb 255 b (omega (arith, h 0 (suc-le-suc zero-le))) in
    pointer_data n b bs f ∙ none_below (n + 1) bs (λ k l. h (suc k) (suc-le-suc l))

pub characters_below : (bs : List ℕ) → Below bs → Characters bs
characters_below bs h = λ k l. inl (h k l)

makes_data : (n q b c : ℕ) (bs ds : List ℕ) → b < 256 → c ≡ b / 32 + 8 * (get_or bs 0 0 % 32) → Makes (n + 1) q bs ds → Makes n q (b ∷ bs) (c ∷ ds)
makes_data n q b c bs ds h s m =
    let f : is_control c ≡ false = le-ltb 255 c (omega arith) in
    let p : pointer n (c ∷ ds) ≡ Some q = pointer_data n c ds f ∙ m.pointed in
    let t : top c ≡ b / 32 = rw f (omega arith) in
    record {
      pointed = p;
      characters = characters_more c ds (inl (data_below c f)) m.characters;
      size = ap suc m.size;
      lines = λ before w.
          let same : cond (is_control before) q (before / 8) + 32 * top c ≡ b = omega (arith, w, t) in
          line_more before n c ds ∙ ap (λ o. octet before o c ∷ line c (n + 1) ds) p ∙ ap (λ x. x ∷ line c (n + 1) ds) same ∙ ap (λ l. b ∷ l) (m.lines c (rw f (omega arith)));
    }

makes_control : (n q b c : ℕ) (bs ds : List ℕ) → b < 256 → c ≡ 256 + turned (b / 32) → Character c → q ≡ n + marked (pointer (n + 1) ds) → Characters ds → length ds ≡ length bs → line c (n + 1) ds ≡ bs → Makes n q (b ∷ bs) (c ∷ ds)
makes_control n q b c bs ds h s ch e hs k m =
    let f : is_control c ≡ true = lt-ltb 255 c (omega arith) in
    let p : pointer n (c ∷ ds) ≡ Some q = pointer_control n c ds f ∙ ap Some (sym e) in
    let eight : b / 32 < 8 = omega arith in
    let code : c % 8 ≡ turned (b / 32) = low_code c (turned (b / 32)) s (turned_small (b / 32) eight) in
    let t : top c ≡ b / 32 = rw f (ap turned code ∙ turned_back (b / 32) eight) in
    record {
      pointed = p;
      characters = characters_more c ds ch hs;
      size = ap suc k;
      lines = λ before w.
          let same : cond (is_control before) q (before / 8) + 32 * top c ≡ b = omega (arith, w, t) in
          line_more before n c ds ∙ ap (λ o. octet before o c ∷ line c (n + 1) ds) p ∙ ap (λ x. x ∷ line c (n + 1) ds) same ∙ ap (λ l. b ∷ l) m;
    }
  where
    low_code : (c t : ℕ) → c ≡ 256 + t → t < 8 → c % 8 ≡ t
    low_code c t s h = omega arith

known_more : (n b : ℕ) (bs : List ℕ) → n + suc (length bs) ≡ 10 → Below (b ∷ bs) → Known (n + 1) bs → Known n (b ∷ bs)
known_more n b bs l h ih q cs pts e = go (known_octet q n b bs)
  where
    small : b < 256
    small = h 0 (suc-le-suc zero-le)

    below : Below bs
    below = λ k i. h (suc k) (suc-le-suc i)

    c : ℕ
    c = 256 + turned (b / 32)

    go : KnownOctet q n b bs → Makes n q (b ∷ bs) cs
    go (not_yet off r) =
        let a = apart (b / 32 + 8 * (get_or bs 0 0 % 32)) (reading (Control q) (n + 1) bs) cs (sym r ∙ e) in
        subst (λ l. Makes n q (b ∷ bs) l) a.2 (makes_data n q b _ bs a.0 small refl (ih q a.0 (points_more n q pts off) a.1))
    go (last_control hit code low r) =
        let s : c ∷ bs ≡ cs = cc (r, e) in
        subst (λ l. Makes n q (b ∷ bs) l) s (makes_control n q b c bs bs small refl (inr code) (rw (none_below (n + 1) bs below) (omega arith)) (characters_below bs below) refl (line_none c (n + 1) bs (none_below (n + 1) bs below)))
    go (earlier_control hit code big r) =
        let a = apart c (reading Pointer (n + 1) bs) cs (sym r ∙ e) in
        let m : Makes (n + 1) (get_or bs 0 0 % 32) bs a.0 = due_known (n + 1) bs (omega arith) (omega arith) ih a.0 a.1 in
        let f : is_control c ≡ true = lt-ltb 255 c (omega arith) in
        subst (λ l. Makes n q (b ∷ bs) l) a.2 (makes_control n q b c bs a.0 small refl (inr code) (rw m.pointed (omega arith)) m.characters m.size (m.lines c (rw f)))
    go (reserved hit none r) = let z : ◌≡◌ {A = ℕ} 0 1 = cc (r, e) in absurd (omega arith)

known_all : (n : ℕ) (bs : List ℕ) → n + length bs ≡ 10 → Below bs → Known n bs
known_all n [] l h = λ q cs pts e. absurd (omega (arith, pts.ahead, pts.inside))
known_all n (b ∷ bs) l h = known_more n b bs l h (known_all (n + 1) bs (omega arith) (λ k i. h (suc k) (suc-le-suc i)))

pub due_all : (bs : List ℕ) → length bs ≡ 10 → Below bs → Due 0 bs
due_all bs l h = due_known 0 bs (omega arith) (omega arith) (known_all 0 bs (omega arith) h)

-- a block that reads well is made by what was read
pub makes_block : (h : ℕ) (bs cs : List ℕ) → h < 2 → length bs ≡ 10 → Below bs → reading (starts h) 0 bs ≡ Ok cs → Encodes (h ∷ bs) cs
makes_block zero bs cs l t b e =
    let s : bs ≡ cs = cc (back_nothing 0 0 bs, e) in
    subst (λ l. Encodes (0 ∷ bs) l) s (record { ten = t; characters = characters_below bs b; makes = sym (block_line bs t ∙ rw (none_below 0 bs b, line_none 256 0 bs (none_below 0 bs b))) })
makes_block (suc zero) bs cs l t b e =
    let m : Makes 0 (get_or bs 0 0 % 32) bs cs = due_all bs t b cs e in
    record { ten = m.size ∙ t; characters = m.characters; makes = sym (block_line cs (m.size ∙ t) ∙ rw (m.pointed, m.lines 256 refl)) }
makes_block (suc (suc h)) bs cs l t b e = absurd (omega arith)

-- no other ten make a block
pub only_those : (block cs ds : List ℕ) → reading (starts (get_or block 0 0)) 0 (drop 1 block) ≡ Ok cs → Encodes block ds → ds ≡ cs
only_those block cs ds e d =
    let r : reading (starts (get_or block 0 0)) 0 (drop 1 block) ≡ Ok ds = rw d.makes (reads_back ds d.ten d.characters) in
    cc
