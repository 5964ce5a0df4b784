use Rattle.std.proofs.Common.{◌≡◌, ℕ, ◌<◌, length, get_or, Some}
use Rattle.blocks.specs.Cycles.{meaning, silent}
use Rattle.blocks.proofs.cycle.read_cycles.Given as goal

abbrev pub invariant-loop-place : goal.invariant-loop-place
invariant-loop-place l = record {
  as_long : length l.read ≡ 450;
  so_far : (j : ℕ) → j < l.place → meaning l.ready (get_or l.cycles j silent) ≡ Some (get_or l.read j 0);
}
