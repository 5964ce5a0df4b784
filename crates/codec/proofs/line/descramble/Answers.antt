use Rattle.std.proofs.Common.{sym, ap, ◌∙◌, subst}
use Rattle.codec.specs.Lines.{line_group}
use Rattle.codec.specs.Demapping.{Descrambled}
use Rattle.codec.proofs.Groups.{xor_back, xor_small}
use Rattle.codec.proofs.line.descramble.Goals as goal

pub returns-in_err-read_group : goal.returns-in_err-read_group
returns-in_err-read_group g c =
    subst (Descrambled (g.L.LineCode.pair c.args.line_code.now) c.args.mask c.args.group.now) (sym c.from_residual.ensures) (λ d h e. c.in_err-read_group.ensures _ (xor_small d c.args.mask h c.requires.mask) e)

pub returns : goal.returns
returns g c =
    let read = c.in_ok-read_group.ensures in
    let scrambled = c.in_ok-read_group.field-0 in
    (xor_small scrambled c.args.mask read.0 c.requires.mask, ap (line_group (g.L.LineCode.pair c.args.line_code.now)) (xor_back scrambled c.args.mask) ∙ read.1)
