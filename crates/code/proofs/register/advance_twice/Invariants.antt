use Rattle.std.proofs.Common.{◌≡◌, ℕ, ◌+◌, ◌<◌, ◌≤◌, get_or}
use Rattle.code.proofs.register.advance_twice.Given as goal

abbrev pub invariant-loop-k : goal.invariant-loop-k
invariant-loop-k g l =
    let f = g.A.Arithmetic.field l.a in
    ((i : ℕ) → i < l.k → get_or l.register i 0 ≡ f.plus (f.plus (get_or l.initial.register (i + 2) 0) (get_or l.first (i + 1) 0)) (get_or l.second i 0))
    × ((i : ℕ) → l.k ≤ i → get_or l.register i 0 ≡ get_or l.initial.register i 0)
