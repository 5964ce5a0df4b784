use Rattle.std.proofs.Common.{◌≡◌, ℕ, ◌<◌}
use Rattle.lines.specs.LineCodes.{ring_pair}
use Rattle.lines.proofs.ring.RingLineCode.read_symbols.Given as goal

abbrev pub invariant-loop-word : goal.invariant-loop-word
invariant-loop-word l = (w : ℕ) → w < l.word → ring_pair w ≡ (l.fn.first.value, l.fn.second.value) → ⊥
