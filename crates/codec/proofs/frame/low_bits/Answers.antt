use Rattle.std.proofs.Common.{arith}
use Rattle.codec.proofs.FrameSymbols.{moved_up}
use Rattle.codec.proofs.frame.low_bits.Goals as goal

pub returns : goal.returns
returns c = moved_up c.args.number c.args.bits c.args.by (omega arith) (omega arith)
