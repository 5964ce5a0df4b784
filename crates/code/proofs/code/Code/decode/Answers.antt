use Rattle.std.proofs.Common.{arith}
use Rattle.code.proofs.Completion.{zero_codeword}
use Rattle.code.proofs.Repairs.{repaired_same}
use Rattle.code.proofs.code.Code.decode.Goals as goal

pub returns-then-is_zero-clause-codeword_within_reach : goal.returns-then-is_zero-clause-codeword_within_reach
returns-then-is_zero-clause-codeword_within_reach g c =
    let laws = g.met.A.Arithmetic.lawful c.args.self.now.arithmetic in
    let w = c.args.word.now in
    repaired_same laws w.symbols (zero_codeword laws w.symbols c.remainder-left.result w.elements (omega arith) c.remainder-left.ensures.small c.remainder-left.ensures.right (c.is_zero.ensures.zero c.if-is_zero.true))
