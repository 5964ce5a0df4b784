use Rattle.std.proofs.Common.{refl, sym, ◌∙◌, arith}
use Rattle.std.proofs.lemmas.Bool.{both_ways}
use Rattle.code.proofs.Values.{syndrome_value}
use Rattle.code.proofs.Completion.{zero_codeword, codeword_zero}
use Rattle.code.specs.Outcomes.{Astray}
use Rattle.code.proofs.Repairs.{repaired_near, astray_far, astray_not}
use Rattle.code.proofs.code.Code.correct.Goals as goal
use Rattle.code.proofs.code.Code.correct.Goals.{then-differing-gt-REACH-via-then-differing-gt-REACH, then-differing-gt-REACH-via-else-differing-gt-REACH+then-not-is_zero}

pub candidate-mended-requires : goal.candidate-mended-requires
candidate-mended-requires g c =
    let laws = g.met.A.Arithmetic.lawful c.args.self.now.arithmetic in
    λ j h. c.syndromes-s.ensures j h ∙ c.requires j h ∙ sym (syndrome_value laws c.args.word.now.symbols j)

pub returns-then-differing-gt-REACH : goal.returns-then-differing-gt-REACH
returns-then-differing-gt-REACH g c =
    let laws = g.met.A.Arithmetic.lawful c.args.self.now.arithmetic in
    let w = c.args.word.now in
    let mended = c.candidate-mended.result in
    let only = c.candidate-mended.ensures in
    let astray : Astray (g.A.Arithmetic.field c.args.self.now.arithmetic) w.symbols = elim c.then-differing-gt-REACH.branch [
      | then-differing-gt-REACH-via-then-differing-gt-REACH b ↦ astray_far laws w.symbols mended.symbols w.elements only c.changes-differing.result c.changes-differing.ensures b.if-differing-gt-REACH.true
      | then-differing-gt-REACH-via-else-differing-gt-REACH+then-not-is_zero b ↦ astray_not laws w.symbols mended.symbols w.elements only (λ h. both_ways _ b.if-not-is_zero.true (b.is_zero.ensures.only (codeword_zero laws mended.symbols b.remainder.result mended.elements (omega arith) b.remainder.ensures.small b.remainder.ensures.right h)))
    ] in
    (astray, refl)

pub returns : goal.returns
returns g c =
    let laws = g.met.A.Arithmetic.lawful c.args.self.now.arithmetic in
    let w = c.args.word.now in
    let mended = c.candidate-mended.result in
    let code = zero_codeword laws mended.symbols c.remainder.result mended.elements (omega arith) c.remainder.ensures.small c.remainder.ensures.right (c.is_zero.ensures.zero c.if-not-is_zero.false) in
    repaired_near laws w.symbols mended.symbols w.elements c.candidate-mended.ensures c.changes-differing.result c.changes-differing.ensures (omega arith) code
