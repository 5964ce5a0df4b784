-- Arithmetics that agree have the same codewords. Assumes nothing.
use Rattle.std.proofs.Common.{◌≡◌, ℕ, zero, suc, ◌*◌, List, [], ◌∷◌, length, sym, refl, ap, ◌∙◌}
use Rattle.arithmetic.specs.Laws.{Operations, Agree, power}
use Rattle.code.specs.Words.{coefficient, below, sum, syndrome, Codeword}

module _ (f g : Operations) (agree : Agree f g) where
  powers_agree : (n : ℕ) → power f f.alpha n ≡ power g g.alpha n
  powers_agree zero = refl
  powers_agree (suc n) =
      ap (λ a. f.times a (power f f.alpha n)) agree.alphas ∙ ap (f.times g.alpha) (powers_agree n) ∙ agree.products g.alpha (power g g.alpha n)

  sums_agree : (c d : ℕ → ℕ) → ((i : ℕ) → c i ≡ d i) → (ts : List ℕ) → sum f c ts ≡ sum g d ts
  sums_agree c d e [] = refl
  sums_agree c d e (t ∷ ts) = ap (λ z. f.plus z (sum f c ts)) (e t) ∙ ap (f.plus (d t)) (sums_agree c d e ts) ∙ agree.sums (d t) (sum g d ts)

  pub syndromes_agree : (w : List ℕ) (j : ℕ) → syndrome f w j ≡ syndrome g w j
  syndromes_agree w j =
      sums_agree (λ i. f.times (coefficient w i) (power f f.alpha (j * i))) (λ i. g.times (coefficient w i) (power g g.alpha (j * i)))
      (λ i. ap (f.times (coefficient w i)) (powers_agree (j * i)) ∙ agree.products (coefficient w i) (power g g.alpha (j * i))) (below (length w))

  pub codewords_agree : (w : List ℕ) → Codeword f w → Codeword g w
  codewords_agree w h = record { word = h.word; checks = λ j b. sym (syndromes_agree w j) ∙ h.checks j b }
