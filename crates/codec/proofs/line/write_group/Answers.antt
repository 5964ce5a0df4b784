use Rattle.std.proofs.Common.{◌∙◌}
use Rattle.codec.proofs.Groups.{six_set, six_written}
use Rattle.codec.proofs.line.write_group.Goals as goal

pub returns : goal.returns
returns g c =
    let code = c.args.line_code.now in
    six_set c.args.group.now _ _ _ _ _ _ c.requires.six
    ∙ six_written (g.L.LineCode.pair code) (g.met.L.LineCode.ternary code) c.args.scrambled c.write.result c.write-2.result c.write-3.result c.requires.nine_bits c.write.ensures.pair_of_the_word c.write-2.ensures.pair_of_the_word c.write-3.ensures.pair_of_the_word
