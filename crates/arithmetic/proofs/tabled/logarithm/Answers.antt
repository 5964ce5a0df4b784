use Rattle.arithmetic.proofs.Lookup.{logarithm_at_most, logarithm_right}
use Rattle.arithmetic.proofs.tabled.logarithm.Goals as goal

pub returns : goal.returns
returns c =
    let rule = c.tables.ensures.rule in
    record {
      at_most_a_round = rw c.from.ensures (logarithm_at_most _ _ rule c.args.a c.requires);
      power_back = rw c.from.ensures (logarithm_right _ _ rule c.args.a c.requires);
    }
