use Rattle.std.proofs.Common.{◌%◌, ◌<◌, sym, ◌∙◌, arith}
use Rattle.arithmetic.specs.Inverses.{inverse_nothing, inverse_bound}
use Rattle.arithmetic.proofs.Lookup.{inverse_by_logarithm}
use Rattle.arithmetic.proofs.tabled.TabledArithmetic.inverse.Goals as goal

pub returns-in-0-clause-value : goal.returns-in-0-clause-value
returns-in-0-clause-value c = sym (inverse_nothing c.args.a c.in-0.is)

pub returns-in_default : goal.returns-in_default
returns-in_default c =
    let l = c.logarithm in
    let some : 0 < c.args.a % 512 = omega arith in
    let e = c.power.ensures.value
    ∙ inverse_by_logarithm c.args.a l.result l.ensures.at_most_a_round (l.ensures.power_back some) in
    record { value = e; below = inverse_bound c.args.a c.power.result e }
