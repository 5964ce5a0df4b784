use Rattle.std.proofs.Common.{◌≡◌, ℕ, ◌<◌, ◌≤◌, length, get_or}
use Rattle.code.proofs.code.Code.horner_step.Given as goal

abbrev pub invariant-loop-total : goal.invariant-loop-total
invariant-loop-total g l =
    let f = g.A.Arithmetic.field l.self.arithmetic in
    (length l.totals ≡ 44)
    × ((k : ℕ) → k < l.total-index → (get_or l.totals k 0 < 512) × (get_or l.totals k 0 ≡ f.plus l.c (get_or l.initial.totals k 0)))
    × ((k : ℕ) → l.total-index ≤ k → get_or l.totals k 0 ≡ get_or l.initial.totals k 0)
