use Rattle.arithmetic.proofs.Lookup.{power_stands}
use Rattle.arithmetic.proofs.tabled.power.Goals as goal

pub returns : goal.returns
returns c = record { value = rw c.from.ensures (power_stands _ _ c.tables.ensures.rule c.args.k c.requires) }
