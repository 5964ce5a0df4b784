-- The register that divides a word by the generator polynomial. Assumes nothing.
use Rattle.std.proofs.Common.{◌≡◌, ℕ, zero, suc, ◌+◌, ◌<◌, List, [], ◌∷◌, ◌++◌, length, get_or, take, drop, replicate, sym, refl, ap, ◌∙◌, add-one, arith, take-append-drop}
use native.Mathlib.Decide.{dec_lt}
use Rattle.std.proofs.lemmas.List.{take_more, length_push, get_or_past, ext_get_or}
use Rattle.arithmetic.specs.Laws.{Operations, Lawful, power, elements}
use Rattle.code.specs.Polynomials.{value, added, advanced}
use Rattle.code.specs.Prepared.{Multiples, Divided}
use Rattle.code.proofs.Basic.{times_zero_left}
use Rattle.code.proofs.Values.{length_added, value_zeros, value_fed, value_whole, value_append, value_added}

pub zeros_zero : (n k : ℕ) → ◌≡◌ {A = ℕ} (get_or (replicate n 0) k 0) 0
zeros_zero zero k = refl
zeros_zero (suc n) zero = refl
zeros_zero (suc n) (suc k) = zeros_zero n k

pub zeros_small : (n k : ℕ) → get_or (replicate n 0) k 0 < elements
zeros_small n k = omega (arith, zeros_zero n k)

module _ {F : Operations} (laws : Lawful F) where
  infixl 60 ◌⊕◌
  infixl 70 ◌⊗◌
  open F use {plus as ◌⊕◌, times as ◌⊗◌}
  open laws use {plus_self}

  pub divided_none : (n m : ℕ) → Divided F n [] (replicate m 0)
  divided_none n m = record { worth = λ j h. value_zeros laws (power F F.alpha j) m ∙ sym (times_zero_left laws _) }

  pub length_advanced : (r row : List ℕ) → 0 < length r → length row ≡ length r → length (advanced F r row) ≡ length r
  length_advanced [] row any e = absurd (omega arith)
  length_advanced (a ∷ r) row any e = length_added F (r ++ (0 ∷ [])) row (simp length_push (omega arith)) ∙ simp length_push (add-one (length r))

  -- what stands where after a move
  added_at : (p q : List ℕ) (i : ℕ) → length p ≡ length q → i < length p → get_or (added F p q) i 0 ≡ get_or p i 0 ⊕ get_or q i 0
  added_at [] q i l h = absurd (omega arith)
  added_at (a ∷ p) [] i l h = absurd (omega arith)
  added_at (a ∷ p) (b ∷ q) zero l h = refl
  added_at (a ∷ p) (b ∷ q) (suc i) l h = added_at p q i (omega arith) (omega arith)

  -- what has the sums of two rows at its places
  pub added_by : (p q new : List ℕ) → length p ≡ length q → length new ≡ length p → ((i : ℕ) → i < length p → get_or new i 0 ≡ get_or p i 0 ⊕ get_or q i 0) → new ≡ added F p q
  added_by p q new l n e =
      let long : length (added F p q) ≡ length p = length_added F p q l in
      ext_get_or 0 new (added F p q) (n ∙ sym long) (λ i h. let b : i < length p = omega arith in e i b ∙ sym (added_at p q i l b))

  push_zero : (p : List ℕ) (i : ℕ) → get_or (p ++ (0 ∷ [])) i 0 ≡ get_or p i 0
  push_zero [] zero = refl
  push_zero [] (suc i) = refl
  push_zero (a ∷ p) zero = refl
  push_zero (a ∷ p) (suc i) = push_zero p i

  pub advanced_at : (r row : List ℕ) (i : ℕ) → length row ≡ length r → i < length r → get_or (advanced F r row) i 0 ≡ get_or r (i + 1) 0 ⊕ get_or row i 0
  advanced_at [] row i l h = absurd (omega arith)
  advanced_at (a ∷ r) row i l h =
      let long : length (r ++ (0 ∷ [])) ≡ suc (length r) = simp length_push (add-one (length r)) in
      added_at (r ++ (0 ∷ [])) row i (long ∙ sym l) (omega arith) ∙ ap (λ z. z ⊕ get_or row i 0) (push_zero r i ∙ ap (λ n. get_or (a ∷ r) n 0) (sym (add-one i)))

  -- what stands where after two moves
  twice_at : (r p q : List ℕ) (i : ℕ) → length p ≡ length r → length q ≡ length r → i < length r → get_or (advanced F (advanced F r p) q) i 0 ≡ get_or r (i + 2) 0 ⊕ get_or p (i + 1) 0 ⊕ get_or q i 0
  twice_at r p q i lp lq h =
      let some : 0 < length r = omega arith in
      let long : length (advanced F r p) ≡ length r = length_advanced r p some lp in
      advanced_at (advanced F r p) q i (lq ∙ sym long) (omega arith) ∙ ap (λ z. z ⊕ get_or q i 0) (elim (dec_lt (i + 1) (length r)) [
        | yes b ↦ advanced_at r p (i + 1) lp b ∙ (let n : i + 1 + 1 ≡ i + 2 = omega arith in ap (λ m. get_or r m 0 ⊕ get_or p (i + 1) 0) n)
        | no b ↦ get_or_past (advanced F r p) (i + 1) 0 (omega arith) ∙ sym (plus_self 0)
            ∙ ap (λ z. z ⊕ 0) (sym (get_or_past r (i + 2) 0 (omega arith))) ∙ ap (λ z. get_or r (i + 2) 0 ⊕ z) (sym (get_or_past p (i + 1) 0 (omega arith)))
      ])

  pub twice_all : (r p q new : List ℕ) → length p ≡ length r → length q ≡ length r → length new ≡ length r → 0 < length r
      → ((i : ℕ) → i < length r → get_or new i 0 ≡ get_or r (i + 2) 0 ⊕ get_or p (i + 1) 0 ⊕ get_or q i 0) → new ≡ advanced F (advanced F r p) q
  twice_all r p q new lp lq ln some e =
      let once : length (advanced F r p) ≡ length r = length_advanced r p some lp in
      let more : 0 < length (advanced F r p) = omega arith in
      let long : length (advanced F (advanced F r p) q) ≡ length r = length_advanced (advanced F r p) q more (lq ∙ sym once) ∙ once in
      ext_get_or 0 new (advanced F (advanced F r p) q) (ln ∙ sym long) (λ i h. let b : i < length r = omega arith in e i b ∙ sym (twice_at r p q i lp lq b))

  -- one more symbol of the message
  pub divided_more : (n : ℕ) (rows : List (List ℕ)) (message register : List ℕ) (i k : ℕ) → Multiples F n rows → i < length message → length register ≡ n → 0 < n → k < elements
      → k ≡ get_or register 0 0 ⊕ get_or message i 0 → Divided F n (take i message) register → Divided F n (take (i + 1) message) (advanced F register (get_or rows k []))
  divided_more n rows message register i k m h l some b e d = record {
    worth = λ j hj.
        let x = power F F.alpha j in
        let row = get_or rows k [] in
        let m0 = get_or message i 0 in
        let any : 0 < length register = omega arith in
        let long : length row ≡ length register = m.long k b ∙ sym l in
        let worth : value F x row ≡ (get_or register 0 0 ⊕ m0) ⊗ power F x (length register) =
        m.worth k j b hj ∙ ap (λ z. z ⊗ power F x (length row)) e ∙ ap (λ y. (get_or register 0 0 ⊕ m0) ⊗ power F x y) long in
        value_fed laws x m0 register row (take i message) any long worth (d.worth j hj)
        ∙ ap (λ p. value F x p ⊗ power F x (length register)) (sym (take_more message i 0 h))
        ∙ ap (λ y. value F x (take (i + 1) message) ⊗ power F x y) (sym (length_advanced register row any long));
  }

  pub divided_whole : (n : ℕ) (message register : List ℕ) → Divided F n message register → (j : ℕ) → j < n → value F (power F F.alpha j) (message ++ register) ≡ 0
  divided_whole n message register d j h = value_whole laws (power F F.alpha j) message register (d.worth j h)

  -- a register with the received check symbols added has the values of the word
  pub remainder_value : (n m : ℕ) (w register : List ℕ) → length register ≡ length (drop m w) → Divided F n (take m w) register
      → (j : ℕ) → j < n → value F (power F F.alpha j) (added F register (drop m w)) ≡ value F (power F F.alpha j) w
  remainder_value n m w register l d j h =
      let x = power F F.alpha j in
      value_added laws x register (drop m w) l
      ∙ ap (λ z. z ⊕ value F x (drop m w)) (d.worth j h ∙ ap (λ y. value F x (take m w) ⊗ power F x y) l)
      ∙ sym (value_append laws x (take m w) (drop m w))
      ∙ ap (value F x) (take-append-drop m w)
