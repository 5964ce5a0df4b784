use Rattle.std.proofs.Common.{◌≡◌, ℕ, ◌<◌, ◌*◌, length, get_or, take}
use Rattle.code.specs.Prepared.{Divided}
use Rattle.code.proofs.code.Code.divide.Given as goal

abbrev pub invariant-loop-x : goal.invariant-loop-x
invariant-loop-x g l =
    (length l.register ≡ 44) × ((k : ℕ) → get_or l.register k 0 < 512)
    × Divided (g.A.Arithmetic.field l.self.arithmetic) 44 (take (2 * l.x-index) l.word) l.register
