use Rattle.std.proofs.Common.{arith}
use Rattle.code.proofs.Recurrences.{extended, grown}
use Rattle.code.proofs.shapes.Syndromes.step.Goals as goal

pub returns-then-r-clause-found : goal.returns-then-r-clause-found
returns-then-r-clause-found g c =
    extended (g.met.A.Arithmetic.lawful c.args.a.now) c.args.self.now.small c.requires.found (omega arith) (omega arith) c.window-value.ensures c.product-factor.ensures.value
    c.raised-lift.result c.reduced.result (omega arith) c.raised-lift.ensures.shifted c.reduced.ensures.same c.reduced.ensures.sum

pub returns-clause-found : goal.returns-clause-found
returns-clause-found g c =
    grown (g.met.A.Arithmetic.lawful c.args.a.now) c.args.self.now.small c.requires.found (omega arith) (omega arith) c.window-value.ensures c.product-factor.ensures.value
    c.raised-lift-2.result c.reduced-2.result (omega arith) c.raised-lift-2.ensures.shifted (omega (arith, c.reduced-2.ensures.same, c.raised-lift-2.ensures.degree)) c.reduced-2.ensures.sum
    c.if-value-eq0.false c.inverse.ensures.value
