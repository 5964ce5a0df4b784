-- What a refusal says of a word. Assumes nothing.
use Rattle.std.proofs.Common.{◌≡◌, ℕ, List, refl, arith}
use Rattle.arithmetic.specs.Laws.{Operations}
use Rattle.refusal.specs.Refusals.{refusal}
use Rattle.refusal.specs.declared.kinds.Layer.TheVariants.{Code}
use Rattle.refusal.specs.declared.kinds.Refusal.{Refusal}
use Rattle.code.specs.Words.{Word}
use Rattle.code.specs.Faults.{Misshapen}
use Rattle.code.specs.Faults.Misshapen.{not_full, too_large}
use Rattle.code.specs.Outcomes.{Astray, Irreparable}
use Rattle.code.specs.Outcomes.Irreparable.{no_word, beyond}

-- a word is never refused for its shape
pub word_fits : (w : List ℕ) (told : Refusal) → Word w → Misshapen w told → ⊥
word_fits w told h (not_full n) = n h.full
word_fits w told h (too_large place t) = let small = h.small place in let above = t.above in omega arith

-- a word that is not repaired has no codeword near, and is told so
pub word_astray : (f : Operations) (w : List ℕ) (told : Refusal) → Word w → Irreparable f w told → Astray f w
word_astray f w told h (no_word m) = absurd (word_fits w told h m)
word_astray f w told h (beyond a) = a

pub word_beyond : (f : Operations) (w : List ℕ) (told : Refusal) → Word w → Irreparable f w told → told ≡ refusal 7 Code 0
word_beyond f w told h (no_word m) = absurd (word_fits w told h m)
word_beyond f w told h (beyond a) = refl
