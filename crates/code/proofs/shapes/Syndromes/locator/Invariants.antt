use Rattle.std.proofs.Common.{◌+◌, ◌-◌}
use Rattle.code.specs.Locating.{Found}
use Rattle.code.proofs.shapes.Syndromes.locator.Given as goal

abbrev pub invariant-loop-r : goal.invariant-loop-r
invariant-loop-r g l = Found (g.A.Arithmetic.field l.a) l.self.sums l.r

abbrev pub decreases-loop-r : goal.decreases-loop-r
decreases-loop-r g l = 44 - (l.r.windows + l.r.current.degree)
