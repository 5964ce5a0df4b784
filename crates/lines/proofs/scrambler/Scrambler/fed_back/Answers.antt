use Rattle.std.proofs.Common.{◌%◌, sym, ap, ◌∙◌}
use Rattle.lines.specs.Scramblers.{state_after}
use Rattle.lines.proofs.NineAtOnce.{master_fed, slave_fed}
use Rattle.lines.proofs.scrambler.Scrambler.fed_back.Goals as goal

pub returns-in-Master : goal.returns-in-Master
returns-in-Master c =
    let s = c.args.self.now in
    record { nine_moves_on = master_fed s.state s.ok.1 ∙ ap (λ role. state_after role s.state 9 % 512) (sym c.in-Master.is) }

pub returns-in-Slave : goal.returns-in-Slave
returns-in-Slave c =
    let s = c.args.self.now in
    record { nine_moves_on = slave_fed s.state s.ok.1 ∙ ap (λ role. state_after role s.state 9 % 512) (sym c.in-Slave.is) }
