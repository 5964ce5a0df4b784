use Rattle.std.proofs.Common.{None, sym, ◌∙◌}
use Rattle.lines.specs.LineCodes.{is_line_symbol}
use Rattle.codec.proofs.Turns.{first_fault}
use Rattle.codec.proofs.line.check_line.Goals as goal

pub returns-in-None : goal.returns-in-None
returns-in-None c = first_fault is_line_symbol c.args.line.now None (sym c.in-None.is ∙ c.first_no_symbol.ensures)
