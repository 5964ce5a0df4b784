use Rattle.std.proofs.Common.{◌≡◌, ℕ, ◌<◌, ◌≤◌, [], length, get_or}
use Rattle.code.proofs.code.Code.times_powers.Given as goal

abbrev pub invariant-loop-k : goal.invariant-loop-k
invariant-loop-k g l =
    (length l.numbers ≡ length l.initial.numbers)
    × ((i : ℕ) → i < l.k → get_or l.numbers i 0 ≡ get_or (get_or l.self.tables.steps i []) (get_or l.initial.numbers i 0) 0)
    × ((i : ℕ) → l.k ≤ i → get_or l.numbers i 0 ≡ get_or l.initial.numbers i 0)
