-- Words one after the other, and what is answered for each. Assumes nothing.
use Rattle.std.specs.Prelude.{◌≡◌, ℕ, ◌+◌, ◌*◌, Bool, true, false, ◌⊎◌, List}
use Rattle.std.specs.List.{between}
use Rattle.arithmetic.specs.Laws.{Operations}
use Rattle.refusal.specs.declared.kinds.Refusal.{Refusal}
use Rattle.code.specs.Outcomes.{Completed, CompleteRefused, Repaired, RepairRefused}

-- the word k
abbrev pub word_at : List ℕ → ℕ → List ℕ
word_at xs k = between (450 * k) (450 * k + 450) xs

-- the answer to completing a word, or to repairing it: the number of symbols changed, or 1000 when it is refused
abbrev pub Answered : Operations → Bool → List ℕ → List ℕ → ℕ → Type 0
Answered f true before after n = (Completed f before after × (n ≡ 0)) ⊎ (((told : Refusal) × CompleteRefused before after told) × (n ≡ 1000))
Answered f false before after n = Repaired f before after n ⊎ (((told : Refusal) × RepairRefused f before after told) × (n ≡ 1000))
