use Rattle.std.proofs.Common.{◌≡◌, ℕ, ◌+◌, ◌<◌, length, get_or}
use Rattle.arithmetic.specs.Laws.{power}
use Rattle.code.specs.Polynomials.{eval_monic}
use Rattle.code.specs.Locating.{poly, whole, Terms}
use Rattle.code.proofs.code.Code.values.Given as goal

abbrev pub invariant-loop-value : goal.invariant-loop-value
invariant-loop-value g l =
    let f = g.A.Arithmetic.field l.self.arithmetic in
    (length l.value-items ≡ 450) × (length l.terms ≡ l.p.degree + 1) × Terms f (whole l.p) (power f f.alpha l.value-index) l.terms
    × ((j : ℕ) → j < l.value-index → get_or l.value-items j 0 ≡ eval_monic f (poly l.p) (power f f.alpha j))
