use Rattle.blocks.proofs.ReadLoop.{ReadSoFar}
use Rattle.blocks.proofs.block.read_payload.Given as goal

abbrev pub invariant-loop-k : goal.invariant-loop-k
invariant-loop-k g l = ReadSoFar g.R.ReadAs.number l.initial.ahead l.ahead l.k l.ten l.payload
