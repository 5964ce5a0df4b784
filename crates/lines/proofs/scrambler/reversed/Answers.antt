use Rattle.lines.proofs.NineAtOnce.{turned_right}
use Rattle.lines.proofs.scrambler.reversed.Goals as goal

pub returns : goal.returns
returns c = record { other_order = rw (c.from.ensures, c.from-2.ensures, c.from-3.ensures) (turned_right c.args.drawn c.requires) }
