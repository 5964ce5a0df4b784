use Rattle.std.proofs.Common.{◌≡◌, ◌-◌, ◌<◌}
use lib.Bits.{bit_xor}
use Rattle.arithmetic.specs.Polynomials.{gathered}
use Rattle.arithmetic.proofs.shifting.ShiftingArithmetic.product.Given as goal

abbrev pub invariant-loop-bit : goal.invariant-loop-bit
invariant-loop-bit l =
    (l.moved < 512)
    × (bit_xor l.total (gathered (9 - l.bit) l.moved l.rest) ≡ gathered 9 l.initial.moved l.initial.rest)
