use Rattle.std.proofs.Common.{◌≡◌, ℕ, ◌+◌}
use Rattle.codec.proofs.ends.Parts.pass_masks.Given as goal

abbrev pub invariant-loop-k : goal.invariant-loop-k
invariant-loop-k g l = (k : ℕ) → g.S.Stream.mask l.stream k ≡ g.S.Stream.mask l.initial.stream (l._k + k)
