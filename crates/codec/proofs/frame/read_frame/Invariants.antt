use Rattle.codec.proofs.FrameReading.{ToldOf}
use Rattle.codec.proofs.frame.read_frame.Given as goal

abbrev pub invariant-loop-k : goal.invariant-loop-k
invariant-loop-k l = ToldOf l.word.symbols l.characters l.k l.invalid l.fault
