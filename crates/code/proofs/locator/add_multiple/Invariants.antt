use Rattle.std.proofs.Common.{◌≡◌, ◌++◌, take, drop}
use Rattle.code.specs.Polynomials.{plus_monic}
use Rattle.code.proofs.locator.add_multiple.Given as goal

abbrev pub invariant-loop-i : goal.invariant-loop-i
invariant-loop-i g l = let f = g.A.Arithmetic.field l.a in take l.i l.q ++ plus_monic f l.k (drop l.i l.p) (drop l.i l.q) ≡ plus_monic f l.k l.p l.initial.q
