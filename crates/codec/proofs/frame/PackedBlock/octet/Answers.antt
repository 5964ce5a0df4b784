use Rattle.std.proofs.Common.{get_or, sym, ap, ◌∙◌}
use Rattle.blocks.specs.Bits.{unpacked}
use Rattle.codec.specs.Frames.{block_from}
use Rattle.codec.proofs.FrameSymbols.{header_bit}
use Rattle.codec.proofs.frame.PackedBlock.octet.Goals as goal

pub returns-then-i-eq0 : goal.returns-then-i-eq0
returns-then-i-eq0 c = header_bit c.args.self.now.symbols.now c.args.self.now.nine ∙ ap (λ i. get_or (block_from (unpacked 9 c.args.self.now.symbols.now)) i 0) (sym c.if-i-eq0.true)
