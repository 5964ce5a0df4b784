use Rattle.std.proofs.Common.{◌≡◌, ◌-◌, ◌*◌, ◌^◌, sym, refl, ap, ◌∙◌, arith}
use Rattle.arithmetic.specs.Laws.{power}
use Rattle.arithmetic.specs.Polynomials.{polynomials}
use Rattle.arithmetic.specs.Algebra.{product_one}
use Rattle.arithmetic.specs.Inverses.{lifted, inverse_lifted, inverse_bound}
use Rattle.arithmetic.proofs.Steps.{square_step, total_step}
use Rattle.arithmetic.proofs.shifting.ShiftingArithmetic.inverse.Goals as goal

pub loop-turn-init : goal.loop-turn-init
loop-turn-init c = (sym (product_one c.args.a), refl)

pub loop-turn-preserved : goal.loop-turn-preserved
loop-turn-preserved c =
    let l = c.loop-turn in
    let a = c.args.a in
    let square = c.product-square in
    let total = c.product-total in
    let s = square_step a l.turn l.square square.result l.invariant.0 square.ensures.value in
    (s, total_step a l.turn l.total square.result total.result l.invariant.1 s total.ensures.value)

pub returns : goal.returns
unfolding lifted
returns c =
    let e : c.loop-turn.turn ≡ 8 = omega arith in
    let v = c.loop-turn.invariant.1 ∙ ap (λ i. power polynomials c.args.a (2 ^ i * 2 - 2)) e ∙ sym (inverse_lifted c.args.a) in
    record { value = v; below = inverse_bound c.args.a c.loop-turn.total v }
