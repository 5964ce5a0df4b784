use Rattle.std.proofs.Common.{◌+◌, ◌<◌, ◌++◌, length, drop, take, filter, sym, ap, ◌∙◌, subst, arith, eq-eqb, ne_eqb, length-append, length-drop, length-take}
use Rattle.code.specs.Words.{below}
use Rattle.code.specs.Polynomials.{times_linear}
use Rattle.code.specs.Locating.{zero_at}
use Rattle.code.proofs.Filled.{left_more, beside_next, beside_done}
use Rattle.code.proofs.Places.{zeros_more, zero_room}
use Rattle.code.proofs.Products.{RootsAt, next_product, roots_more}
use Rattle.code.proofs.code.Code.product_over_zeros.Given.{Over}
use Rattle.code.proofs.code.Code.product_over_zeros.Goals.{Then-value-eq0}
use Rattle.code.proofs.code.Code.product_over_zeros.Goals as goal

-- at a zero the product has room for one more factor
factor_room : (g : Over) (c : Then-value-eq0 g) → c.loop-value.degree < length c.loop-value.low
factor_room g c = omega (arith, c.requires, zero_room c.loop-value.invariant.0 c.in-Some.ensures.steps.0 c.if-value-eq0.true)

pub overflow_add-low : goal.overflow_add-low
overflow_add-low g c = omega (arith, factor_room g (goal.at.overflow_add-low g c).Then-value-eq0)

pub slice_bounds-low-end : goal.slice_bounds-low-end
slice_bounds-low-end g c = omega (arith, factor_room g (goal.at.slice_bounds-low-end g c).Then-value-eq0)

pub slice_bounds-times_root-end : goal.slice_bounds-times_root-end
slice_bounds-times_root-end g c = omega (arith, factor_room g (goal.at.slice_bounds-times_root-end g c).Then-value-eq0, length-take (c.loop-value.degree + 1) c.loop-value.low)

pub overflow_add-degree : goal.overflow_add-degree
overflow_add-degree g c = omega (arith, factor_room g (goal.at.overflow_add-degree g c).Then-value-eq0)

pub loop-value-preserved-then-value-eq0 : goal.loop-value-preserved-then-value-eq0
loop-value-preserved-then-value-eq0 g c =
    let f = g.A.Arithmetic.field c.args.self.now.arithmetic in
    let seen = c.loop-value.yielded in
    let i = length seen in
    let beside = c.loop-value.invariant.0 in
    let low = c.loop-value.low in
    let d = c.loop-value.degree in
    let q = c.times_root.new.p in
    let new = q ++ drop (d + 1) low in
    let zeros = zeros_more seen (c.in-Some.value, c.in-Some.point) beside c.in-Some.ensures.steps.0 (eq-eqb _ 0 c.if-value-eq0.true) in
    let here = left_more c.args.self.now.tables.points i 0 c.in-Some.ensures.steps.1 beside.second in
    let point = here.1 ∙ c.args.self.now.ready.powers i (omega (arith, here.0)) in
    let inside = factor_room g (goal.at.loop-value-preserved-then-value-eq0 g c).Then-value-eq0 in
    let made = next_product f _ low q d inside c.times_root.auto.p c.times_root.ensures ∙ ap (λ y. times_linear f y 0 (take d low)) point in (
      beside_next seen (c.in-Some.value, c.in-Some.point) beside c.in-Some.ensures.steps.0 c.in-Some.ensures.steps.1,
      omega (arith, c.times_root.auto.p, length-append q (drop (d + 1) low), length-drop (d + 1) low, length-take (d + 1) low),
      subst (RootsAt f (d + 1) new) (sym zeros) (roots_more (g.met.A.Arithmetic.lawful c.args.self.now.arithmetic) i new made c.loop-value.invariant.2),
    )

pub loop-value-preserved : goal.loop-value-preserved
loop-value-preserved g c =
    let f = g.A.Arithmetic.field c.args.self.now.arithmetic in
    let seen = c.loop-value.yielded in
    let beside = c.loop-value.invariant.0 in
    let same = zeros_more seen (c.in-Some.value, c.in-Some.point) beside c.in-Some.ensures.steps.0 (ne_eqb _ 0 c.if-value-eq0.false) in (
      beside_next seen (c.in-Some.value, c.in-Some.point) beside c.in-Some.ensures.steps.0 c.in-Some.ensures.steps.1,
      c.loop-value.invariant.1,
      subst (RootsAt f c.loop-value.degree c.loop-value.low) (sym same) c.loop-value.invariant.2,
    )

pub invariant_of-result : goal.invariant_of-result
invariant_of-result g c =
    let all = beside_done c.loop-value.invariant.0 c.in-None.ensures.steps (omega arith) in
    record { within = omega (arith, c.requires, ap (λ n. length (filter (zero_at c.args.values.now) (below n))) all) }

pub returns : goal.returns
returns g c =
    let f = g.A.Arithmetic.field c.args.self.now.arithmetic in
    let all = beside_done c.loop-value.invariant.0 c.in-None.ensures.steps (omega arith) in
    let roots = subst (λ n. RootsAt f c.loop-value.degree c.loop-value.low (filter (zero_at c.args.values.now) (below n))) all c.loop-value.invariant.2 in
    record { degree = roots.count; zeros = roots.zeros }
