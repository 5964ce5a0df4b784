use Rattle.std.proofs.Common.{◌≡◌, ◌<◌, length, take, drop}
use Rattle.code.specs.Polynomials.{reads}
use Rattle.code.specs.Locating.{poly}
use Rattle.code.proofs.Corrections.{Divides}
use Rattle.code.proofs.code.Code.correction.Given as goal

abbrev pub invariant-loop-coefficient : goal.invariant-loop-coefficient
invariant-loop-coefficient g l =
    let coefficients = l.coefficient-iterator.a.iter.rest.now in
    let k = length coefficients in
    (k < l.p.degree) × (coefficients ≡ take k (drop 1 l.p.low)) × (l.coefficient-iterator.b.iter.rest.now ≡ take k l.s.sums)
    × Divides (g.A.Arithmetic.field l.self.arithmetic) (poly l.p) (reads l.s.sums) l.x k l.value l.numerator l.denominator
