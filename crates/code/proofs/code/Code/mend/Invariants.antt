use Rattle.std.proofs.Common.{◌≡◌, ℕ, ◌<◌, ◌≤◌, length, get_or}
use Rattle.code.specs.Words.{coefficient}
use Rattle.code.specs.Locating.{poly, restored}
use Rattle.code.proofs.code.Code.mend.Given as goal

abbrev pub invariant-loop-i : goal.invariant-loop-i
invariant-loop-i g l =
    (length l.word.symbols ≡ 450) × ((k : ℕ) → get_or l.word.symbols k 0 < 512)
    × ((k : ℕ) → k < l.i → coefficient l.word.symbols k ≡ restored (g.A.Arithmetic.field l.self.arithmetic) l.values l.s.sums (poly l.p) l.initial.word.symbols k)
    × ((k : ℕ) → l.i ≤ k → k < 450 → coefficient l.word.symbols k ≡ coefficient l.initial.word.symbols k)
