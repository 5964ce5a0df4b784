use Rattle.std.proofs.Common.{◌≡◌, ℕ, ◌-◌, ◌≤◌, List, ◌++◌, length, take, string_bytes}
use Rattle.bench.specs.Benches.{standing}
use Rattle.bench.specs.Files.{Runs}
use Rattle.bench.proofs.bench.Bench.run.Given as goal

-- the records so far, and the lines that were added
abbrev pub invariant-loop-step : goal.invariant-loop-step
invariant-loop-step g l =
    (text : List ℕ)
    × (string_bytes l.out ≡ string_bytes l.initial.out ++ text)
    × (l.taken ≤ length l.octets)
    × Runs (standing g.A.Arithmetic.field g.S.Stream.mask g.L.LineCode.pair l.initial.self) l.initial.self.number (take l.taken l.octets) text (standing g.A.Arithmetic.field g.S.Stream.mask g.L.LineCode.pair l.self) l.self.number

abbrev pub decreases-loop-step : goal.decreases-loop-step
decreases-loop-step g l = length l.octets - l.taken
