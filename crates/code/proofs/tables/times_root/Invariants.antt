use Rattle.std.proofs.Common.{◌≡◌, ◌++◌, take, drop}
use Rattle.code.specs.Polynomials.{times_linear}
use Rattle.code.proofs.tables.times_root.Given as goal

abbrev pub invariant-loop-c : goal.invariant-loop-c
invariant-loop-c g l =
    let f = g.A.Arithmetic.field l.a in
    take l.c-index l.c-items ++ times_linear f l.y l.carried (drop l.c-index l.c-items) ≡ times_linear f l.y 0 l.initial.c-items
