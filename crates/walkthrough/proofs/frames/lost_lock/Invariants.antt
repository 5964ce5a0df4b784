use Rattle.std.proofs.Common.{◌≡◌, length}
use Rattle.walkthrough.proofs.frames.lost_lock.Given as goal

abbrev pub invariant-loop-n : goal.invariant-loop-n
invariant-loop-n l = (length l.received ≡ 450) × (length l.places ≡ 22)
