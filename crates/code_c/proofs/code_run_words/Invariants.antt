use Rattle.std.proofs.Common.{◌≡◌, ℕ, ◌+◌, ◌*◌, ◌<◌, ◌≤◌, length, get_or}
use Rattle.arithmetic.specs.Polynomials.{polynomials}
use Rattle.code_c.specs.Batches.{word_at, Answered}
use Rattle.code_c.proofs.code_run_words.Given as goal

abbrev pub invariant-loop-k : goal.invariant-loop-k
invariant-loop-k l =
    ((j : ℕ) → j < l.k → 450 * j + 450 ≤ length l.initial.words → Answered polynomials l.completing (word_at l.initial.words j) (word_at l.words j) (get_or l.answer-items j 0))
    × ((j : ℕ) → l.k ≤ j → word_at l.words j ≡ word_at l.initial.words j)
