use Rattle.std.proofs.Common.{◌%◌, ◌<◌, ◌∙◌, inl, inr, arith}
use Rattle.arithmetic.specs.Inverses.{product_bound}
use Rattle.arithmetic.proofs.Lookup.{by_logarithms, none_left, none_right}
use Rattle.arithmetic.proofs.tabled.TabledArithmetic.product.Goals as goal

pub returns-then-y-eq0-clause-value : goal.returns-then-y-eq0-clause-value
returns-then-y-eq0-clause-value c = elim c.if-y-eq0.either [ inl e ↦ none_left c.args.a c.args.b e | inr p ↦ none_right c.args.a c.args.b p.1 ]

pub returns-else-y-eq0 : goal.returns-else-y-eq0
returns-else-y-eq0 c =
    let m = c.logarithm in
    let n = c.logarithm-2 in
    let left : 0 < c.args.a % 512 = omega arith in
    let right : 0 < c.args.b % 512 = omega arith in
    let e = c.power-found.ensures.value ∙ c.wrapped.ensures.same_power
    ∙ by_logarithms c.args.a c.args.b m.result n.result (m.ensures.power_back left) (n.ensures.power_back right) in
    record { value = e; below = product_bound c.args.a c.args.b c.power-found.result e }
