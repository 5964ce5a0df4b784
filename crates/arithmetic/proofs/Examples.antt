-- The worked values, by computing the definitions. Assumes nothing.
use Rattle.std.proofs.Common.{refl}
use Rattle.arithmetic.specs.Polynomials.{twice, gathered, product, undoing, inverse, polynomials}
use Rattle.arithmetic.specs.Worked.{Worked}

pub polynomials_worked : Worked polynomials
unfolding twice gathered product undoing inverse
polynomials_worked = record { ninth_power = refl; fourteenth_power = refl; inverse_of_two = refl }
