use Rattle.std.proofs.Common.{◌≡◌, ◌<◌, ℕ, length, get_or, arith, rules}
use Rattle.std.proofs.lemmas.Grind.{same_number_lists}
use Rattle.blocks.specs.Bits.{unpacked}
use Rattle.codec.specs.Frames.{block_from}
use Rattle.codec.proofs.FrameSymbols.{eleven_octets}
use Rattle.codec.proofs.frame.PackedBlock.block.Goals as goal

pub returns : goal.returns
returns c =
    let long = c.from_fn.ensures.items.long in
    let block = block_from (unpacked 9 c.args.self.now.symbols.now) in
    let each : (i : ℕ) → i < length c.from_fn.result → get_or c.from_fn.result i 0 ≡ get_or block i 0 = λ i l. let h = c.from_fn.ensures.items.at i 0 (omega (arith, l, long)) in search rules in
    same_number_lists c.from_fn.result block (omega (arith, long, eleven_octets (unpacked 9 c.args.self.now.symbols.now))) each
