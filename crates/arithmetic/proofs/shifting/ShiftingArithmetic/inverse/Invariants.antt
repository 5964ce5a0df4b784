use Rattle.std.proofs.Common.{◌≡◌, ◌-◌, ◌*◌, ◌^◌}
use Rattle.arithmetic.specs.Laws.{power}
use Rattle.arithmetic.specs.Polynomials.{polynomials}
use Rattle.arithmetic.proofs.shifting.ShiftingArithmetic.inverse.Given as goal

abbrev pub invariant-loop-turn : goal.invariant-loop-turn
invariant-loop-turn l = (l.square ≡ power polynomials l.a (2 ^ l.turn)) × (l.total ≡ power polynomials l.a (2 ^ l.turn * 2 - 2))
