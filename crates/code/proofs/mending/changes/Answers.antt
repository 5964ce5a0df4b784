use Rattle.std.proofs.Common.{length, not, eqb, inl, inr, ap, ap₂, arith, rules}
use Rattle.code.specs.Words.{distance}
use Rattle.code.proofs.Distances.{distance_most, one_at_most, counted}
use Rattle.code.proofs.mending.changes.Goals as goal

pub loop-x-init : goal.loop-x-init
loop-x-init c = search rules

pub overflow_add-count : goal.overflow_add-count
overflow_add-count c = omega (arith, one_at_most (not (eqb c.in-Some.x.now c.in-Some.y.now)), c.loop-x.invariant.1)

pub loop-x-preserved : goal.loop-x-preserved
loop-x-preserved c =
    let x = c.in-Some.x.now in
    let y = c.in-Some.y.now in
    let u = c.next.new.self.a.rest.now in
    let v = c.next.new.self.b.rest.now in
    let (left, right) = c.in-Some.ensures.steps in
    let (same, room, so_far) = c.loop-x.invariant in (
      omega (arith, same, ap length left, ap length right),
      omega (arith, room, ap length left, c.from-count.ensures, one_at_most (not (eqb x y))),
      omega (arith, so_far, ap₂ distance left right, c.from-count.ensures, counted x y u v),
    )

pub returns : goal.returns
returns c =
    let (same, room, so_far) = c.loop-x.invariant in
    let none = distance_most c.loop-x.x-iterator.a.rest.now c.loop-x.x-iterator.b.rest.now same in
    elim c.in-None.ensures.steps [
      | inl e ↦ omega (arith, so_far, none, e.1.0)
      | inr e ↦ omega (arith, so_far, none, same, e.1.0)
    ]
