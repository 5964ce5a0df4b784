-- The reader's loop.
use Rattle.std.proofs.Common.{◌≡◌, ℕ, ◌+◌, ◌<◌, List, [], ◌∷◌, ◌++◌, map, length, get_or, take, drop, set, Ok, Err, Result, sym, refl, ap, ◌∙◌, append_assoc, append-nil, arith, length-set}
use Rattle.std.proofs.lemmas.List.{drop_more, drop_all, take_all, take_more_set, get_or-drop, length-map, map-set}
use Rattle.blocks.specs.Steps.{stepped, before_all, onward, reading}
use Rattle.blocks.specs.declared.faults.BlockFault.{BlockFault}
use Rattle.blocks.specs.declared.ahead.Ahead.{Ahead}

abbrev pub after_all : List ℕ → Result (List ℕ) BlockFault → Result (List ℕ) BlockFault
after_all cs (Ok ds) = Ok (cs ++ ds)
after_all cs (Err e) = Err e

-- the first k characters read, and what is read from octet k on, make the whole
pub record ReadSoFar {A : Type 0} (number : A → ℕ) (first ahead : Ahead) (k : ℕ) (read : List A) (bs : List ℕ) : Type 0 where
  pub ten : length read ≡ 10
  pub whole : after_all (take k (map number read)) (reading ahead k (drop k bs)) ≡ reading first 0 bs

reading_more : (ahead : Ahead) (k next : ℕ) (bs : List ℕ) → k < length bs → next ≡ get_or bs (k + 1) 0 → reading ahead k (drop k bs) ≡ onward (stepped ahead k (get_or bs k 0) next) (λ after. reading after (k + 1) (drop (k + 1) bs))
unfolding reading
reading_more ahead k next bs h e =
    let n : get_or (drop (k + 1) bs) 0 0 ≡ next = get_or-drop (k + 1) bs 0 0 ∙ ap (λ n. get_or bs n 0) (omega arith) ∙ sym e in
    rw (drop_more bs k 0 h, n) refl

joined : (cs : List ℕ) (c : ℕ) (r : Result (List ℕ) BlockFault) → after_all (cs ++ (c ∷ [])) r ≡ after_all cs (before_all c r)
joined cs c (Ok ds) = ap Ok (append_assoc cs (c ∷ []) ds)
joined cs c (Err e) = refl

pub read_more : {A : Type 0} (number : A → ℕ) (first ahead after : Ahead) (k next n : ℕ) (c : A) (read : List A) (bs : List ℕ) → length bs ≡ 10 → k < 10 → next ≡ get_or bs (k + 1) 0 → Ok (n, after) ≡ stepped ahead k (get_or bs k 0) next → number c ≡ n → ReadSoFar number first ahead k read bs → ReadSoFar number first after (k + 1) (set read k c) bs
read_more number first ahead after k next n c read bs h l e s w r =
    let t = r.ten in
    let m = length-map read number in
    record {
      ten = length-set read k c ∙ r.ten;
      whole =
          ap (λ l. after_all (take (k + 1) l) (reading after (k + 1) (drop (k + 1) bs))) (map-set number read k c)
          ∙ ap (λ l. after_all l (reading after (k + 1) (drop (k + 1) bs))) (take_more_set (map number read) k (number c) (omega arith))
          ∙ ap (λ m. after_all (take k (map number read) ++ (m ∷ [])) (reading after (k + 1) (drop (k + 1) bs))) w
          ∙ joined (take k (map number read)) n (reading after (k + 1) (drop (k + 1) bs))
          ∙ ap (after_all (take k (map number read))) (sym (reading_more ahead k next bs (omega arith) e ∙ ap (λ x. onward x (λ a. reading a (k + 1) (drop (k + 1) bs))) (sym s)))
          ∙ r.whole;
    }

pub read_stop : {A : Type 0} (number : A → ℕ) (first ahead : Ahead) (k next : ℕ) (e : BlockFault) (read : List A) (bs : List ℕ) → length bs ≡ 10 → k < 10 → next ≡ get_or bs (k + 1) 0 → Err e ≡ stepped ahead k (get_or bs k 0) next → ReadSoFar number first ahead k read bs → reading first 0 bs ≡ Err e
read_stop number first ahead k next e read bs h l n s r =
    sym r.whole ∙ ap (after_all (take k (map number read))) (reading_more ahead k next bs (omega arith) n ∙ ap (λ x. onward x (λ a. reading a (k + 1) (drop (k + 1) bs))) (sym s))

pub read_all : {A : Type 0} (number : A → ℕ) (first ahead : Ahead) (k : ℕ) (read : List A) (bs : List ℕ) → length bs ≡ 10 → k ≡ 10 → ReadSoFar number first ahead k read bs → reading first 0 bs ≡ Ok (map number read)
unfolding reading
read_all number first ahead k read bs h l r =
    let t = r.ten in
    let m = length-map read number in
    sym r.whole ∙ ap (λ x. after_all (take k (map number read)) (reading ahead k x)) (drop_all k bs (omega arith)) ∙ ap Ok (append-nil (take k (map number read)) ∙ take_all k (map number read) (omega arith))
