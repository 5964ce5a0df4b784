use Rattle.std.proofs.Common.{◌≡◌, ℕ, List, length, get_or, ap, ◌∙◌, subst, arith, length-take, eq-eqb}
use Rattle.std.proofs.lemmas.List.{length-take-le}
use Rattle.std.specs.List.{AllByRecursion}
use Rattle.arithmetic.specs.Laws.{power}
use Rattle.code.specs.Polynomials.{eval_monic}
use Rattle.code.specs.Locating.{poly, zero_at}
use Rattle.code.proofs.Places.{kept_before}
use Rattle.code.proofs.Nearest.{few_zeros, nearest, zeros_roots}
use Rattle.code.proofs.code.Code.candidate.Goals as goal

pub product_over_zeros-product-requires : goal.product_over_zeros-product-requires
product_over_zeros-product-requires g c =
    let p = c.locator.result in
    let laws = g.met.A.Arithmetic.lawful c.args.self.now.arithmetic in
    omega (arith, few_zeros laws (poly p) c.values-values.result 450 (omega arith) (omega arith) c.values-values.ensures, length-take p.degree p.low, c.locator.result.within)

pub mend-requires : goal.mend-requires
mend-requires g c = λ i h z.
    let values = c.values-values.result in
    omega (arith, kept_before (zero_at values) i (length values) (omega arith) (eq-eqb (get_or values i 0) 0 z), c.product_over_zeros-product.ensures.degree)

pub returns : goal.returns
returns g c = λ v hv near.
    let f = g.A.Arithmetic.field c.args.self.now.arithmetic in
    let laws = g.met.A.Arithmetic.lawful c.args.self.now.arithmetic in
    let p = c.locator.result in
    let q = c.product_over_zeros-product.result in
    let w = c.args.word.now.symbols in
    let s = c.args.s.now.sums in
    let values = c.values-values.result in
    let mended = c.mend.new.word.symbols in
    let long : length mended ≡ 450 = c.mend.new.word.elements.full in
    let lv : length values ≡ 450 = omega arith in
    let roots = zeros_roots laws (poly p) values 450 (omega arith) lv c.values-values.ensures in
    let lq : length (poly q) ≡ q.degree = length-take-le q.degree q.low (omega (arith, c.product_over_zeros-product.result.within)) in
    let Zero : List ℕ → Type 0 = AllByRecursion (λ i. eval_monic f (poly q) (power f f.alpha i) ≡ 0) in
    nearest laws (poly p) values 450 (omega arith) lv c.values-values.ensures w mended s (poly q) 22 c.args.word.now.elements.full long (λ i. c.args.word.now.elements.small _)
    c.args.s.now.small (λ j h. c.requires j (omega arith)) (omega (arith, length-take p.degree p.low, c.locator.result.within)) c.locator.ensures
    (lq ∙ c.product_over_zeros-product.ensures.degree ∙ ap length roots) (subst Zero roots c.product_over_zeros-product.ensures.zeros)
    c.mend.ensures v hv.word.full (λ i. hv.word.small _) (λ j h. hv.checks j (omega arith)) near
