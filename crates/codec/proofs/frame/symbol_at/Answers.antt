use Rattle.std.proofs.Common.{get_or, sym, ap, ◌∙◌, arith, rules}
use Rattle.blocks.specs.Bits.{packed}
use Rattle.codec.specs.Frames.{block_bits}
use Rattle.codec.proofs.FrameSymbols.{first_symbol, later_symbol, symbol_small}
use Rattle.codec.proofs.frame.symbol_at.Goals as goal

pub returns-then-j-eq0 : goal.returns-then-j-eq0
returns-then-j-eq0 c =
    rw (c.from.ensures, c.from-then-j-eq0.ensures) (sym (ap (λ j. get_or (packed 9 9 (block_bits c.args.block.now)) j 0) c.if-j-eq0.true ∙ first_symbol c.args.block.now c.told-block (λ k. search rules)))

pub overflow_add-result-2 : goal.overflow_add-result-2
overflow_add-result-2 c =
    rw (c.from-low.ensures, c.low_bits-high.ensures, c.from-2.ensures) (omega (arith, symbol_small c.args.block.now c.args.j (λ k. search rules) (omega arith) (omega arith)))

pub returns : goal.returns
returns c =
    rw (c.from-low.ensures, c.low_bits-high.ensures, c.from-2.ensures) (sym (later_symbol c.args.block.now c.args.j c.told-block (λ k. search rules) (omega arith) c.requires.one_of_nine))
