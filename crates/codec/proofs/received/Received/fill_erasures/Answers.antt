use Rattle.std.proofs.Common.{sym, ◌∙◌, subst, arith, length-set}
use Rattle.code.specs.Words.{Word}
use Rattle.codec.specs.Demapping.{filled}
use Rattle.codec.proofs.FrameSymbols.{wrote_more, wrote_all}
use Rattle.codec.proofs.Nearness.{filled_at, filled_word, length_filled}
use Rattle.codec.proofs.received.Received.fill_erasures.Goals as goal

pub loop-k-preserved : goal.loop-k-preserved
loop-k-preserved c =
    let symbols = c.args.self.now.symbols in
    let long = length_filled symbols in
    (length-set _ _ _ ∙ c.loop-k.invariant.0, wrote_more c.loop-k.symbols (filled symbols) c.loop-k.k _ (omega (arith, c.loop-k.invariant.0, c.loop-k-test.true)) (omega (arith, long, c.loop-k-test.true)) c.loop-k.invariant.1 (c.unwrap_or.ensures ∙ sym (filled_at symbols c.loop-k.k)))

pub invariant_of-result : goal.invariant_of-result
invariant_of-result c =
    let symbols = c.args.self.now.symbols in
    let all = wrote_all c.loop-k.symbols (filled symbols) 450 c.loop-k.k c.loop-k.invariant.0 (length_filled symbols ∙ omega arith) (omega (arith, c.loop-k-test.false)) c.loop-k.invariant.1 in
    record { elements = subst Word (sym all) (filled_word symbols (omega arith) c.args.self.now.nine_bits) }
