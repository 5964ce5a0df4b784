-- The writer's loop, one octet more.
use Rattle.std.proofs.Common.{◌≡◌, ℕ, ◌+◌, ◌<◌, ◌≤◌, Bool, true, false, eqb, List, [], ◌∷◌, ◌++◌, map, length, get_or, drop, set, Some, None, Option, sym, refl, ap, ◌∙◌, subst, add-one, arith, length-drop, length-set, append_assoc, MatchOption}
use Rattle.std.specs.Int.{from_bool}
use Rattle.std.specs.List.{push}
use Rattle.std.specs.Option.{is_some}
use Rattle.std.proofs.lemmas.List.{drop_more, drop-set, drop_all, length-append, length-map}
use Rattle.std.proofs.lemmas.Bool.{eqb-true, eqb-false}
use Rattle.std.proofs.Math.Seq.{get_or-append_seam}
use Rattle.blocks.specs.Characters as numbers
use Rattle.blocks.specs.Characters.{is_control}
use Rattle.blocks.specs.Blocks.{pointer, led, block_of, Encodes, header}
use Rattle.blocks.specs.Numbers.{number_of}
use Rattle.blocks.specs.Steps.{octet, line}
use Rattle.blocks.specs.declared.character.Character.{Character}
use Rattle.blocks.proofs.Numbers.{number_at}
use Rattle.blocks.proofs.Octets.{pointer_control, data_below, points, block_line}

-- the characters that are still to be written, and those after them
abbrev pub Front : List Character → List Character → Type 0
Front rest cs = (later : List Character) × (rest ++ later ≡ cs)

-- the payload from octet k on, and the pointer there
pub record Filled (cs block : List ℕ) (o : Option ℕ) (k : ℕ) : Type 0 where
  pub eleven : length block ≡ 11
  pub due : o ≡ pointer k (drop k cs)
  pub payload : drop (k + 1) block ≡ line (get_or (256 ∷ cs) k 0) k (drop k cs)
  pub allowed : (j : ℕ) → k ≤ j → j < length cs → numbers.Character (get_or cs j 0)

-- c is the character of octet k, and what stands after it is written
pub record Last (cs left : List Character) (c : Character) (k : ℕ) (block : List ℕ) (later : Option ℕ) : Type 0 where
  pub ten : length (map number_of cs) ≡ 10
  pub front : Front left cs
  pub place : k ≡ length left
  pub inside : k < length (map number_of cs)
  pub there : number_of c ≡ get_or (map number_of cs) k 0
  pub filled : Filled (map number_of cs) block later (k + 1)

pub filled_none : (cs block : List ℕ) (k : ℕ) → length cs ≡ k → k ≡ 10 → length block ≡ 11 → Filled cs block None k
unfolding pointer line
filled_none cs block k h l m = record {
  eleven = m;
  due = rw (drop_all k cs (omega arith)) refl;
  payload = rw (drop_all k cs (omega arith), drop_all (k + 1) block (omega arith)) refl;
  allowed = λ j i n. absurd (omega arith);
}

pub last_of : (rest left cs : List Character) (c : Character) (count k : ℕ) (block : List ℕ) (later : Option ℕ) → length cs ≡ 10 → count ≡ 0 → Front rest cs → Filled (map number_of cs) block later (length rest) → rest ≡ push left c → k ≡ count + length left → Last cs left c k block later
last_of rest left cs c count k block later h z (after, e) f p q =
    let s : left ++ (c ∷ after) ≡ cs = sym (append_assoc left (c ∷ []) after) ∙ ap (λ l. l ++ after) (sym p) ∙ e in
    let l = length-append left (c ∷ after) in
    let m : length (left ++ (c ∷ after)) ≡ length cs = ap length s in
    let n = length-append left (c ∷ []) in
    let o : length rest ≡ length (push left c) = ap length p in
    let t = length-map cs number_of in
    let w : k ≡ length left = omega arith in
    record {
      ten = omega arith;
      front = (c ∷ after, s);
      place = w;
      inside = omega arith;
      there = sym (number_at cs k ∙ ap number_of (ap (λ l. get_or l k (Character.Data 0)) (sym s) ∙ ap (λ n. get_or (left ++ (c ∷ after)) n (Character.Data 0)) w ∙ get_or-append_seam left c after (Character.Data 0)));
      filled = subst (Filled (map number_of cs) block later) (omega arith) f;
    }

pointed_more : (cs : List ℕ) (i c : ℕ) (o : Option ℕ) → i < length cs → o ≡ pointer (i + 1) (drop (i + 1) cs) → c ≡ get_or cs i 0 → led i c o ≡ pointer i (drop i cs)
unfolding pointer
pointed_more cs i c o h e f = rw (drop_more cs i 0 h, e, f)

filled_more : (cs block : List ℕ) (i c before v : ℕ) (o later : Option ℕ) → length cs ≡ 10 → i < length cs → Filled cs block later (i + 1) → c ≡ get_or cs i 0 → numbers.Character c → before ≡ get_or (256 ∷ cs) i 0 → o ≡ led i c later → v ≡ octet before o c → Filled cs (set block (i + 1) v) o i
unfolding line
filled_more cs block i c before v o later h l p e a f g w =
    let q : o ≡ pointer i (drop i cs) = g ∙ pointed_more cs i c later l p.due e in
    let m : drop i cs ≡ c ∷ drop (i + 1) cs = drop_more cs i 0 l ∙ ap (λ x. x ∷ drop (i + 1) cs) (sym e) in
    let d : get_or (256 ∷ cs) (i + 1) 0 ≡ c = ap (λ n. get_or (256 ∷ cs) n 0) (add-one i) ∙ sym e in
    let u = p.eleven in
    record {
      eleven = length-set block (i + 1) v ∙ p.eleven;
      due = q;
      payload =
          drop-set block (i + 1) v (omega arith)
          ∙ ap (λ l. v ∷ l) (p.payload ∙ ap (λ x. line x (i + 1) (drop (i + 1) cs)) d)
          ∙ ap (λ x. x ∷ line c (i + 1) (drop (i + 1) cs)) (w ∙ ap (λ x. octet x o c) f ∙ ap (λ x. octet (get_or (256 ∷ cs) i 0) x c) (q ∙ ap (pointer i) m))
          ∙ sym (ap (line (get_or (256 ∷ cs) i 0) i) m);
      allowed = λ j n k. at j n k (eqb i j) refl;
    }
  where
    at : (j : ℕ) → i ≤ j → j < length cs → (t : Bool) → eqb i j ≡ t → numbers.Character (get_or cs j 0)
    at j n k true t = subst (λ x. numbers.Character (get_or cs x 0)) (eqb-true i j t) (subst numbers.Character e a)
    at j n k false t = p.allowed j (let ne : i ≡ j → ⊥ = eqb-false i j t in omega arith) k

pub one_more : (cs left : List Character) (c : Character) (k before v : ℕ) (block : List ℕ) (o later : Option ℕ) → Last cs left c k block later → numbers.Character (number_of c) → before ≡ get_or (256 ∷ map number_of cs) k 0 → o ≡ led k (number_of c) later → v ≡ octet before o (number_of c) → Filled (map number_of cs) (set block (k + 1) v) o (length left)
one_more cs left c k before v block o later p a f g w =
    subst (Filled (map number_of cs) (set block (k + 1) v) o) p.place (filled_more (map number_of cs) block k (number_of c) before v o later p.ten p.inside p.filled p.there a f g w)

fits : (cs : List ℕ) (i c : ℕ) (o : Option ℕ) → length cs ≡ 10 → i < length cs → o ≡ pointer i (drop i cs) → c ≡ get_or cs i 0 → MatchOption o (c < 256) (λ p. p < 32)
fits cs i c None h l q e = go (is_control c) refl
  where
    go : (t : Bool) → is_control c ≡ t → c < 256
    go true f =
        let m : drop i cs ≡ c ∷ drop (i + 1) cs = drop_more cs i 0 l ∙ ap (λ x. x ∷ drop (i + 1) cs) (sym e) in
        let z : ◌≡◌ {A = ℕ} 0 1 = cc (pointer_control i c (drop (i + 1) cs) f, ap (pointer i) m) in
        absurd (omega arith)
    go false f = data_below c f
fits cs i c (Some p) h l q e = (points i p (drop i cs) (sym q) (simp length-drop (omega arith))).small

pub octet_fits : (cs left : List Character) (c : Character) (k : ℕ) (block : List ℕ) (o later : Option ℕ) → Last cs left c k block later → o ≡ led k (number_of c) later → MatchOption o (number_of c < 256) (λ p. p < 32)
octet_fits cs left c k block o later p g = fits (map number_of cs) k (number_of c) o p.ten p.inside (g ∙ pointed_more (map number_of cs) k (number_of c) later p.inside p.filled.due p.there) p.there

pub filled_all : (cs block : List ℕ) (o : Option ℕ) (k v : ℕ) → length cs ≡ 10 → k ≡ 0 → Filled cs block o k → v ≡ header o → Encodes (set block 0 v) cs
filled_all cs block o k v h z p w = record {
  ten = h;
  characters = λ j l. p.allowed j (omega arith) l;
  makes = made block p.eleven (subst (λ n. o ≡ pointer n (drop n cs)) z p.due) (subst (λ n. drop (n + 1) block ≡ line (get_or (256 ∷ cs) n 0) n (drop n cs)) z p.payload);
}
  where
    made : (block : List ℕ) → length block ≡ 11 → o ≡ pointer 0 (drop 0 cs) → drop (0 + 1) block ≡ line (get_or (256 ∷ cs) 0 0) 0 (drop 0 cs) → set block 0 v ≡ block_of cs
    made [] l p s = absurd (omega arith)
    made (b ∷ bs) l p s = sym (block_line cs h ∙ rw (← p, w) (ap (λ l. header o ∷ l) (sym s)))

pub header_byte : (o : Option ℕ) → from_bool (is_some o) ≡ header o
header_byte None = refl
header_byte (Some p) = refl
