use Rattle.std.proofs.Common.{◌≡◌, ◌-◌, ◌++◌, length, take, drop, sym, ap, ◌∙◌, arith, length-take}
use Rattle.code.specs.Polynomials.{times_linear}
use Rattle.code.proofs.Products.{product_end}
use Rattle.code.proofs.tables.times_root.Goals as goal

pub returns : goal.returns
returns g c =
    let f = g.A.Arithmetic.field c.args.a.now in
    let p = c.args.p.now in
    let n = length p - 1 in
    let items = c.loop-c.c-items in
    let long : length items ≡ n = omega (arith, c.loop-c.auto.c-items, length-take n p) in
    let done : c.loop-c.c-index ≡ n = omega arith in
    product_end f c.args.y c.loop-c.carried items p n c.sum-2.result long (omega arith) c.sum-2.ensures.value
    ∙ ap (λ m. take m items ++ times_linear f c.args.y c.loop-c.carried (drop m items)) (sym done)
    ∙ c.loop-c.invariant
