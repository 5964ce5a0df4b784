use Rattle.std.proofs.Common.{◌≡◌, ◌+◌, ◌-◌, ◌*◌, ◌<◌, [], get_or, length, map, ap, ◌∙◌, arith}
use Rattle.blocks.specs.Bits.{packed}
use Rattle.blocks.specs.Blocks.{block_of}
use Rattle.blocks.specs.Numbers.{number_of}
use Rattle.codec.specs.Frames.{block_bits}
use Rattle.codec.proofs.FrameBits.{header_of}
use Rattle.codec.proofs.FrameWriting as writing
use Rattle.code.proofs.Filled.{chunk_at}
use Rattle.codec.proofs.frame.Frame.word.Goals as goal

pub loop-k-init : goal.loop-k-init
loop-k-init c = writing.written_none (map number_of c.args.self.now.characters)

pub symbols_of-requires : goal.symbols_of-requires
symbols_of-requires c = record { bit = rw c.encode.ensures.block_they_make.makes (header_of _) }

pub loop-k-preserved : goal.loop-k-preserved
loop-k-preserved c =
    let cs = c.args.self.now.characters in
    let k = c.loop-k.k in
    let long : length cs ≡ 450 = omega arith in
    let within : k < 45 = omega (arith, c.as_chunks.ensures.front_len, c.loop-k-test.true) in
    let ten = ap (λ ts. get_or ts k []) c.as_chunks.ensures.front ∙ chunk_at 10 _ cs k (omega (arith, long, within)) in
    let block = c.encode.ensures.block_they_make.makes ∙ ap block_of (writing.ten_numbers cs _ k ten) in
    writing.written_more (map number_of cs) k (9 * k + 9 - 9 * k) c.loop-k.symbols c.copy_from_slice.new.self within (omega arith) c.loop-k.invariant (c.copy_from_slice.ensures.after ∙ c.symbols_of.ensures ∙ ap (λ b. packed 9 9 (block_bits b)) block)

pub returns : goal.returns
returns c =
    writing.written_message (map number_of c.args.self.now.characters) c.args.self.now.symbol c.loop-k.k c.loop-k.symbols (omega (arith, c.as_chunks.ensures.front_len, c.loop-k-test.false)) c.args.self.now.nine_bits c.loop-k.invariant

pub invariant_of-result : goal.invariant_of-result
invariant_of-result c =
    record { elements = writing.written_word (map number_of c.args.self.now.characters) c.args.self.now.symbol c.loop-k.k c.loop-k.symbols (omega (arith, c.as_chunks.ensures.front_len, c.loop-k-test.false)) c.args.self.now.nine_bits c.loop-k.invariant }
