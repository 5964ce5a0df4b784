use Rattle.std.proofs.Common.{◌≡◌, ◌-◌, length, get_or, ap, ◌∙◌, arith, rules}
use Rattle.std.proofs.lemmas.List.{take_all}
use Rattle.code.specs.Polynomials.{eval}
use Rattle.code.proofs.Filled.{made_with}
use Rattle.code.proofs.Values.{multiple_value}
use Rattle.code.proofs.tables.multiple.Goals as goal

pub returns : goal.returns
returns g c = λ x.
    let f = g.A.Arithmetic.field c.args.a.now in
    let k = c.args.k in
    let p = c.args.g.now in
    let row = c.from_fn.result in
    let long : length p ≡ 44 = omega arith in
    let made = made_with _ (λ i y. y ≡ f.times k (get_or p (43 - i) 0)) _ row 0 0 44 c.from_fn.ensures.items.each (λ j y q r. search rules) in
    multiple_value (g.met.A.Arithmetic.lawful c.args.a.now) x k p row 44 long c.from_fn.ensures.items.long (λ i h. made i (omega arith) h) 44 (omega arith)
    ∙ ap (λ q. f.times k (eval f q x)) (take_all 44 p (omega arith))
