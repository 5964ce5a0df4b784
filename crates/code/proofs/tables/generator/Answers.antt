use Rattle.std.proofs.Common.{◌+◌, ◌<◌, ◌++◌, length, take, drop, ap, ◌∙◌, arith, length-append, length-drop, length-take}
use Rattle.std.proofs.lemmas.List.{get_or-take}
use Rattle.arithmetic.specs.Laws.{power}
use Rattle.code.specs.Polynomials.{times_linear}
use Rattle.code.proofs.Products.{next_product, vanishes_more}
use Rattle.code.proofs.tables.generator.Goals as goal

pub loop-degree-preserved : goal.loop-degree-preserved
loop-degree-preserved g c =
    let f = g.A.Arithmetic.field c.args.a.now in
    let points = c.args.points.now in
    let j = c.loop-degree.degree in
    let h : j < 44 = omega (arith, length-take 44 points) in
    let point = get_or-take 44 points j 0 h ∙ c.requires j (omega arith) in
    let p = c.loop-degree.g in
    let q = c.times_root.new.p in
    let room : j < length p = omega arith in
    let step = next_product f _ p q j room c.times_root.auto.p c.times_root.ensures ∙ ap (λ y. times_linear f y 0 (take j p)) point in
    (omega (arith, c.times_root.auto.p, length-append q (drop (j + 1) p), length-drop (j + 1) p, length-take (j + 1) p), vanishes_more (g.met.A.Arithmetic.lawful c.args.a.now) (power f f.alpha) p (q ++ drop (j + 1) p) j step c.loop-degree.invariant.1)
