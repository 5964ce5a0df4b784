use Rattle.std.proofs.Common.{◌∙◌, rules}
use Rattle.std.proofs.lemmas.Iterator.{YieldsList-from_slice}
use Rattle.std.proofs.lemmas.Iterator.Consumers.{fold_from_yields_List}
use Rattle.code.proofs.Places.{fold_total}
use Rattle.code.proofs.roots.total_of.Goals as goal

pub returns : goal.returns
returns g c =
    let f = g.A.Arithmetic.field c.args.a.now in
    let terms = c.args.terms.now in
    fold_from_yields_List _ f.plus 0 _ c.fold.ensures.ran (YieldsList-from_slice terms cc) (λ sum x b q k. search rules)
    ∙ fold_total (g.met.A.Arithmetic.lawful c.args.a.now) terms
