use Rattle.std.proofs.Common.{◌≡◌, length}
use Rattle.code.specs.Prepared.{Steps}
use Rattle.code.proofs.tables.steps.Given as goal

abbrev pub invariant-loop-j : goal.invariant-loop-j
invariant-loop-j g l = (length l.row-items ≡ 44) × Steps (g.A.Arithmetic.field l.a) l.j l.row-items
