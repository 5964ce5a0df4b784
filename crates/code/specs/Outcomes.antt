-- What completing and repairing a word come to. Assumes nothing.
use Rattle.std.specs.Prelude.{◌≡◌, ℕ, ◌≤◌, List, take}
use Rattle.arithmetic.specs.Laws.{Operations}
use Rattle.refusal.specs.Refusals.{refusal}
use Rattle.refusal.specs.declared.kinds.Layer.TheVariants.{Code}
use Rattle.refusal.specs.declared.kinds.Refusal.{Refusal}
use Rattle.code.specs.Words.{distance, message_length, reach, Word, Codeword}
use Rattle.code.specs.Faults.{Misshapen}

-- the one codeword with the first 406 symbols of a word
pub record Completed (f : Operations) (before after : List ℕ) : Type 0 where
  pub word : Word before
  pub message : take message_length after ≡ take message_length before
  pub codeword : Codeword f after
  pub only : (v : List ℕ) → Codeword f v → take message_length v ≡ take message_length before → v ≡ after

-- not completed, and left as it was
pub record CompleteRefused (before after : List ℕ) (told : Refusal) : Type 0 where
  pub why : Misshapen before told
  pub same : after ≡ before

-- the one codeword within 22 places of a word
pub record Repaired (f : Operations) (before after : List ℕ) (changed : ℕ) : Type 0 where
  pub word : Word before
  pub codeword : Codeword f after
  pub count : changed ≡ distance before after
  pub near : changed ≤ reach
  pub only : (v : List ℕ) → Codeword f v → distance before v ≤ reach → v ≡ after

-- no codeword is within 22 places of a word
pub record Astray (f : Operations) (w : List ℕ) : Type 0 where
  pub word : Word w
  pub none : (v : List ℕ) → Codeword f v → distance w v ≤ reach → ⊥

-- why a list of symbols is not repaired
pub data Irreparable (f : Operations) (w : List ℕ) : Refusal → Type 0 where
  no_word : {told : Refusal} → Misshapen w told → Irreparable f w told
  beyond : Astray f w → Irreparable f w (refusal 7 Code 0)

-- not repaired, and left as it was
pub record RepairRefused (f : Operations) (before after : List ℕ) (told : Refusal) : Type 0 where
  pub why : Irreparable f before told
  pub same : after ≡ before
