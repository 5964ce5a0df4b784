use Rattle.std.proofs.Common.{◌≡◌, ◌+◌, ◌<◌, ◌≤◌, length, get_or, drop, sym, ap, ◌∙◌, arith, rules, length-drop}
use Rattle.std.proofs.lemmas.List.{get_or-drop, get_or-take, length-take-le, length_push}
use Rattle.code.specs.Polynomials.{reads}
use Rattle.code.specs.Locating.{poly}
use Rattle.code.proofs.Corrections.{divides_more, left_below}
use Rattle.code.proofs.code.Code.correction.Goals as goal

pub loop-coefficient-preserved : goal.loop-coefficient-preserved
loop-coefficient-preserved g c =
    let f = g.A.Arithmetic.field c.args.self.now.arithmetic in
    let p = c.args.p.now in
    let s = c.args.s.now.sums in
    let l = c.loop-coefficient in
    let m = length l.coefficient-iterator.a.iter.rest.now in
    let room : m < p.degree = l.invariant.0 in
    let rest = c.next.new.self.a.iter.rest.now in
    let k = length rest in
    let one : m ≡ k + 1 = ap length c.in-Some.ensures.steps.0 ∙ length_push rest c.in-Some.coefficient.now in
    let place : 1 + k ≡ m = omega (arith, one) in
    let inside : m ≤ length s = omega (arith, room) in
    let coefficient = left_below (drop 1 p.low) m k 0 c.in-Some.ensures.steps.0 l.invariant.1 one (omega (arith, room, length-drop 1 p.low)) in
    let sum = left_below s m k 0 c.in-Some.ensures.steps.1 l.invariant.2 one inside in
    let read : c.in-Some.coefficient.now ≡ get_or (poly p) m 0 =
    coefficient.1 ∙ get_or-drop 1 p.low k 0 ∙ ap (λ n. get_or p.low n 0) place ∙ sym (get_or-take p.degree p.low m 0 room) in (
      omega (arith, one, room),
      coefficient.0,
      sum.0,
      divides_more f (poly p) (reads s) _ m k one (omega (arith, room, length-take-le p.degree p.low)) read sum.1 l.invariant.3 (search rules) (search rules) (search rules),
    )
