use Rattle.std.proofs.Common.{◌≡◌, ◌<◌, arith, rules}
use Rattle.code.proofs.Filled.{made_with}
use Rattle.code.proofs.tables.products.Goals as goal

pub returns : goal.returns
returns g c = λ k h.
    let f = g.A.Arithmetic.field c.args.a.now in
    made_with _ (λ j y. j < 512 → y ≡ f.times c.args.x j) _ c.from_fn.result 0 0 512 c.from_fn.ensures.items.each (λ j y q r. search rules) k (omega arith) (omega arith) h
