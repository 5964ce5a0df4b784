use Rattle.std.proofs.Common.{◌+◌, ◌-◌, ◌*◌, ◌/◌, ◌%◌, sym, ap, ◌∙◌, arith}
use lib.Bits.{bit_xor}
use Rattle.arithmetic.specs.Polynomials.{gathered, product}
use Rattle.arithmetic.specs.Linear.{twice_below}
use Rattle.arithmetic.specs.Inverses.{product_bound}
use Rattle.arithmetic.proofs.Steps.{gathered_step, gathered_end}
use Rattle.arithmetic.proofs.shifting.ShiftingArithmetic.product.Goals as goal

pub loop-bit-preserved : goal.loop-bit-preserved
loop-bit-preserved c =
    let l = c.loop-bit in
    let e = c.double-moved.ensures.value in (
      omega (arith, e, twice_below l.moved),
      ap (λ n. bit_xor (bit_xor l.total (l.rest % 2 * l.moved)) (gathered (9 - (l.bit + 1)) n (l.rest / 2))) e
          ∙ gathered_step l.bit l.total l.moved l.rest c.loop-bit-test.true ∙ l.invariant.1,
    )

pub returns : goal.returns
unfolding product
returns c =
    let l = c.loop-bit in
    let e = sym (gathered_end l.bit l.total l.moved l.rest c.loop-bit-test.false) ∙ l.invariant.1 in
    record { value = e; below = product_bound c.args.a c.args.b l.total e }
