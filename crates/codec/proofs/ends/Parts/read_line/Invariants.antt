use Rattle.std.proofs.Common.{◌≡◌, ℕ, ◌+◌, ◌<◌, None, length, get_or}
use Rattle.codec.specs.Lines.{group}
use Rattle.codec.specs.Demapping.{Descrambled}
use Rattle.codec.proofs.ends.Parts.read_line.Given as goal

abbrev pub invariant-loop-k : goal.invariant-loop-k
invariant-loop-k g l =
    (length l.symbols ≡ 450)
    × ((i : ℕ) → i < l.k → Descrambled (g.L.LineCode.pair l.line_code) (g.S.Stream.mask l.initial.stream i) (group l.line i) (get_or l.symbols i None))
    × ((i : ℕ) → g.S.Stream.mask l.stream i ≡ g.S.Stream.mask l.initial.stream (l.k + i))
