-- Completed words, and words with the values of a short polynomial. Assumes nothing.
use Rattle.std.proofs.Common.{◌≡◌, ℕ, zero, suc, ◌+◌, ◌-◌, ◌<◌, ◌≤◌, List, [], ◌∷◌, ◌++◌, length, get_or, take, drop, replicate, sym, ap, ◌∙◌, subst, arith, length-append, length-drop}
use lib.ListN.{length-replicate}
use borrow.Rule.Slice.PartMut.{put_mid}
use Rattle.std.proofs.lemmas.List.{length-take-le, take_at, drop_all, append-nil, ext_get_or}
use Rattle.arithmetic.specs.Laws.{Operations, Lawful, power, elements}
use Rattle.code.specs.Words.{distance, parity, message_length, word_length, Word, Codeword}
use Rattle.code.specs.Polynomials.{value}
use Rattle.code.specs.Prepared.{Divided}
use Rattle.code.specs.Outcomes.{Completed}
use Rattle.code.proofs.Distances.{distance_most, same_front}
use Rattle.code.proofs.Unique.{unique}
use Rattle.code.proofs.Values.{syndrome_value, value_zeros}
use Rattle.code.proofs.Registers.{divided_whole, zeros_zero, zeros_small}

put_end : (a n : ℕ) (xs ys zs : List ℕ) → length xs ≤ a + n → ys ≡ zs → put_mid a n xs ys ≡ take a xs ++ zs
put_end a n xs ys zs h e =
    let none : drop n (drop a xs) ≡ [] = drop_all n (drop a xs) (simp length-drop (omega arith)) in
    ap (λ r. take a xs ++ (ys ++ r)) none ∙ ap (λ r. take a xs ++ r) (append-nil ys) ∙ ap (λ r. take a xs ++ r) e

take_small : (n : ℕ) (w : List ℕ) → ((i : ℕ) → get_or w i 0 < elements) → (i : ℕ) → get_or (take n w) i 0 < elements
take_small zero w s i = omega arith
take_small (suc n) [] s i = omega arith
take_small (suc n) (a ∷ w) s zero = s 0
take_small (suc n) (a ∷ w) s (suc i) = take_small n w (λ k. s (suc k)) i

pub append_small : (u v : List ℕ) → ((i : ℕ) → get_or u i 0 < elements) → ((i : ℕ) → get_or v i 0 < elements) → (i : ℕ) → get_or (u ++ v) i 0 < elements
append_small [] v s t i = t i
append_small (a ∷ u) v s t zero = s 0
append_small (a ∷ u) v s t (suc i) = append_small u v (λ k. s (suc k)) t i

module _ {F : Operations} (laws : Lawful F) where
  -- codewords that differ in no more symbols than sums vanish are one
  pub uniquely : (u v : List ℕ) → Codeword F u → Codeword F v → distance u v ≤ parity → u ≡ v
  uniquely u v hu hv near =
      unique laws u v (hu.word.full ∙ sym hv.word.full) parity (omega (arith, hu.word.full)) (λ i. hu.word.small _) (λ i. hv.word.small _) near hu.checks hv.checks

  whole_codeword : (message register : List ℕ) → length message + length register ≡ word_length → ((i : ℕ) → get_or message i 0 < elements) → ((i : ℕ) → get_or register i 0 < elements)
      → Divided F parity message register → Codeword F (message ++ register)
  whole_codeword message register l sm sr d = record {
    word = record { full = length-append message register ∙ l; small = append_small message register sm sr };
    checks = λ j h. syndrome_value laws (message ++ register) j ∙ divided_whole laws parity message register d j h;
  }

  -- the register, copied over the end of the word
  pub completed : (w register copy : List ℕ) (n : ℕ) → length w ≤ message_length + n → Word w → length register ≡ parity → ((i : ℕ) → get_or register i 0 < elements) → Divided F parity (take message_length w) register
      → copy ≡ register → Completed F w (put_mid message_length n w copy)
  completed w register copy n room hw lr sr d copied =
      let front = take message_length w in
      let lt : length front ≡ message_length = length-take-le message_length w (omega (arith, hw.full)) in
      let code : Codeword F (front ++ register) = whole_codeword front register (omega arith) (take_small message_length w hw.small) sr d in
      let kept : take message_length (front ++ register) ≡ front = take_at front register message_length lt in
      let done : Completed F w (front ++ register) = record {
        word = hw;
        message = kept;
        codeword = code;
        only = λ v hv e.
            let l : length v ≡ length (front ++ register) = hv.word.full ∙ sym code.word.full in
            let far : distance v (front ++ register) ≤ length v - message_length = same_front v (front ++ register) message_length l (omega (arith, hv.word.full)) (e ∙ sym kept) in
            uniquely v (front ++ register) hv code (omega (arith, hv.word.full));
      } in
      subst (Completed F w) (sym (put_end message_length n w copy register room copied)) done

  -- a word and a short polynomial with the same values at the first powers of α
  module _ (w p : List ℕ) (hw : Word w) (lp : length p ≡ parity) (pb : (k : ℕ) → get_or p k 0 < elements)
      (same : (j : ℕ) → j < parity → value F (power F F.alpha j) p ≡ value F (power F F.alpha j) w) where
    pub zero_codeword : ((k : ℕ) → get_or p k 0 ≡ 0) → Codeword F w
    zero_codeword z =
        let none : p ≡ replicate (length p) 0 = ext_get_or 0 p (replicate (length p) 0) (sym (length-replicate (length p) 0)) (λ k h. z k ∙ sym (zeros_zero (length p) k)) in
        record { word = hw; checks = λ j h. syndrome_value laws w j ∙ sym (same j h) ∙ ap (value F (power F F.alpha j)) none ∙ value_zeros laws (power F F.alpha j) (length p) }

    pub codeword_zero : Codeword F w → (k : ℕ) → get_or p k 0 ≡ 0
    codeword_zero hc k =
        let zeros = replicate (length p) 0 in
        let l : length p ≡ length zeros = sym (length-replicate (length p) 0) in
        let e : p ≡ zeros = unique laws p zeros l parity (omega arith) (λ i. pb _) (λ i. zeros_small (length p) _)
        (let d : distance p zeros ≤ length p = distance_most p zeros l in omega arith)
        (λ j h. syndrome_value laws p j ∙ same j h ∙ sym (syndrome_value laws w j) ∙ hc.checks j h)
        (λ j h. syndrome_value laws zeros j ∙ value_zeros laws (power F F.alpha j) (length p)) in
        ap (λ q. get_or q k 0) e ∙ zeros_zero (length p) k
