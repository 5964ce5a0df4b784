use Rattle.std.proofs.Common.{◌≡◌, length, get_or, take, sym, refl, ap, ◌∙◌, arith}
use Rattle.std.proofs.lemmas.List.{take_more}
use Rattle.arithmetic.specs.Laws.{power}
use Rattle.code.specs.Polynomials.{value}
use Rattle.code.proofs.Values.{value_step}
use Rattle.code.proofs.Registers.{zeros_zero, zeros_small}
use Rattle.code.proofs.code.Code.syndromes.Goals as goal

pub loop-c-init : goal.loop-c-init
loop-c-init g c = (refl, λ j h. zeros_small 44 j, λ j h. zeros_zero 44 j)

pub loop-c-preserved : goal.loop-c-preserved
loop-c-preserved g c =
    let a = c.args.self.now.arithmetic in
    let f = g.A.Arithmetic.field a in
    let p = c.args.p.now in
    let i = c.loop-c.c-index in
    let long : length c.horner_step.new.totals ≡ 44 = omega arith in (
      long,
      c.horner_step.ensures.small,
      λ j h. let x = power f f.alpha j in
          c.horner_step.ensures.right j h
          ∙ ap (λ z. f.plus (get_or p i 0) (f.times x z)) (c.loop-c.invariant.2 j h)
          ∙ value_step (g.met.A.Arithmetic.lawful a) x (take i p) (get_or p i 0)
          ∙ ap (value f x) (sym (take_more p i 0 (omega (arith, c.told-p, c.loop-c-test.true)))),
    )
