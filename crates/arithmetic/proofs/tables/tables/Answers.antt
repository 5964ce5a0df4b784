use Rattle.std.proofs.Common.{refl}
use Rattle.arithmetic.specs.Polynomials.{twice}
use Rattle.arithmetic.proofs.Lookup.{doubled, undone, tables_follow}
use Rattle.arithmetic.proofs.tables.tables.Goals as goal

pub returns : goal.returns
unfolding doubled undone twice
returns c = record { rule = tables_follow _ _ refl refl refl refl refl }
