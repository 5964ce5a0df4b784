use Rattle.std.proofs.Common.{sym, arith}
use Rattle.codec.proofs.FrameSymbols.{end_octet, later_octet}
use Rattle.codec.proofs.frame.PackedBlock.payload_octet.Goals as goal

pub returns-then-i-eq0 : goal.returns-then-i-eq0
returns-then-i-eq0 c = sym (end_octet c.args.self.now.symbols.now c.args.i 0 c.args.self.now.nine c.args.self.now.small c.requires.one_of_ten (omega arith) (omega arith))

pub returns : goal.returns
returns c = later_octet c.args.self.now.symbols.now c.args.i _ c.args.self.now.nine c.args.self.now.small (omega arith) c.requires.one_of_ten c.high_bits-high.ensures
