use Rattle.std.proofs.Common.{◌≡◌, ℕ, ◌<◌, get_or}
use Rattle.arithmetic.specs.Laws.{power}
use Rattle.code.proofs.tables.powers.Given as goal

abbrev pub invariant-loop-place : goal.invariant-loop-place
invariant-loop-place g l =
    let f = g.A.Arithmetic.field l.a in
    (l.point ≡ power f f.alpha l.place-index) × ((j : ℕ) → j < l.place-index → get_or l.place-items j 0 ≡ power f f.alpha j)
