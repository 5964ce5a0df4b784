use Rattle.std.proofs.Common.{map}
use Rattle.blocks.specs.Numbers.{number_of}
use Rattle.codec.proofs.FrameWriting.{Written}
use Rattle.codec.proofs.frame.Frame.word.Given as goal

abbrev pub invariant-loop-k : goal.invariant-loop-k
invariant-loop-k l = Written (map number_of l.self.characters) l.k l.symbols
