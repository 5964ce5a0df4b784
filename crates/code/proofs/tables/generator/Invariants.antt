use Rattle.std.proofs.Common.{◌≡◌, length, take}
use Rattle.arithmetic.specs.Laws.{power}
use Rattle.code.specs.Prepared.{Vanishes}
use Rattle.code.proofs.tables.generator.Given as goal

abbrev pub invariant-loop-degree : goal.invariant-loop-degree
invariant-loop-degree g l =
    let f = g.A.Arithmetic.field l.a in
    (length l.g ≡ 44) × Vanishes f (power f f.alpha) l.degree (take l.degree l.g)
