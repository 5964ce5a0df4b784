use Rattle.std.proofs.Common.{sym}
use Rattle.arithmetic.specs.Linear.{twice_split}
use Rattle.arithmetic.proofs.polynomials.double.Goals as goal

pub returns : goal.returns
returns c = record { value = sym (twice_split c.args.a) }
