use Rattle.arithmetic.proofs.Lookup.{whole_round}
use Rattle.arithmetic.proofs.tabled.wrapped.Goals as goal

pub returns-else-k-lt-ROUND-clause-same_power : goal.returns-else-k-lt-ROUND-clause-same_power
returns-else-k-lt-ROUND-clause-same_power c = whole_round c.args.k c.if-k-lt-ROUND.false
