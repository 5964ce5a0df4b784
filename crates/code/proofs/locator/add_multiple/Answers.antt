use Rattle.std.proofs.Common.{◌≡◌, ◌<◌, ◌++◌, length, take, drop, sym, ap, ◌∙◌, arith}
use Rattle.code.specs.Polynomials.{plus_monic}
use Rattle.code.proofs.Recurrences.{plus_end}
use Rattle.code.proofs.locator.add_multiple.Goals as goal

pub returns : goal.returns
returns g c =
    let f = g.A.Arithmetic.field c.args.a.now in
    let p = c.args.p.now in
    let q = c.loop-i.q in
    let h : length p < length q = omega (arith, c.requires, c.loop-i.auto.q) in
    let done : c.loop-i.i ≡ length p = omega arith in
    plus_end f c.args.k p q c.sum-2.result h c.sum-2.ensures.value
    ∙ ap (λ n. take n q ++ plus_monic f c.args.k (drop n p) (drop n q)) (sym done)
    ∙ c.loop-i.invariant
