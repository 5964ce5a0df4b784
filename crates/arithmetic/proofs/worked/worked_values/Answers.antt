use Rattle.std.proofs.Common.{◌∙◌}
use Rattle.arithmetic.proofs.Examples.{polynomials_worked}
use Rattle.arithmetic.proofs.worked.worked_values.Goals as goal

pub returns : goal.returns
returns c = record {
  answers_are_those = (
    c.power.ensures.value ∙ polynomials_worked.ninth_power,
    c.power-2.ensures.value ∙ polynomials_worked.fourteenth_power,
    c.inverse.ensures.value ∙ polynomials_worked.inverse_of_two,
  );
  worked_values_hold = polynomials_worked;
}
