use Rattle.std.proofs.Common.{◌≡◌, ◌<◌, ℕ, length, get_or, arith, rules}
use Rattle.std.proofs.lemmas.Grind.{same_number_lists}
use Rattle.blocks.specs.Bits.{packed}
use Rattle.codec.specs.Frames.{block_bits}
use Rattle.codec.proofs.FrameSymbols.{nine_symbols}
use Rattle.codec.proofs.frame.symbols_of.Goals as goal

pub returns : goal.returns
returns c =
    let long = c.from_fn.ensures.items.long in
    let nine = packed 9 9 (block_bits c.args.block.now) in
    let each : (i : ℕ) → i < length c.from_fn.result → get_or c.from_fn.result i 0 ≡ get_or nine i 0 = λ i l. let h = c.from_fn.ensures.items.at i 0 (omega (arith, l, long)) in search rules in
    same_number_lists c.from_fn.result nine (omega (arith, long, nine_symbols c.args.block.now)) each
