use Rattle.std.proofs.Common.{refl}
use Rattle.arithmetic.specs.Polynomials.{sum}
use Rattle.arithmetic.specs.Algebra.{sum_below}
use Rattle.arithmetic.proofs.polynomials.sum.Goals as goal

pub returns : goal.returns
unfolding sum
returns c = record { value = refl; below = sum_below c.args.a c.args.b }
