use Rattle.bench.proofs.Refusing.{changes_nothing}
use Rattle.bench.proofs.bench.Bench.step.Goals as goal

pub returns-clause-refused_record_changes_nothing : goal.returns-clause-refused_record_changes_nothing
returns-clause-refused_record_changes_nothing g c = changes_nothing _ _ _ _ _ _ c.carry_out-printed.ensures.carries
