use Rattle.std.proofs.Common.{◌≡◌, ℕ, ◌+◌, ◌*◌, length, take}
use Rattle.codec.specs.Lines.{line_from}
use Rattle.codec.proofs.ends.Parts.write_line.Given as goal

abbrev pub invariant-loop-k : goal.invariant-loop-k
invariant-loop-k g l =
    (length l.line ≡ 2700)
    × (take (6 * l.k) l.line ≡ line_from (g.L.LineCode.pair l.line_code) (g.S.Stream.mask l.initial.stream) 0 (take l.k l.word.symbols))
    × ((i : ℕ) → g.S.Stream.mask l.stream i ≡ g.S.Stream.mask l.initial.stream (l.k + i))
