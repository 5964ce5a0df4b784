use Rattle.std.proofs.Common.{Some, sym, ap, ◌∙◌}
use Rattle.std.proofs.lemmas.Result.{err_from_is_err_and}
use Rattle.codec.specs.declared.faults.EndFault.{EndFault}
use Rattle.codec.specs.Locks.{new_lock}
use Rattle.codec.proofs.Faulted as faulted
use Rattle.codec.proofs.checks.check_frame.Goals as goal

pub returns-then-symbol-gt511-clause-checked : goal.returns-then-symbol-gt511-clause-checked
returns-then-symbol-gt511-clause-checked c = λ line room. faulted.send_symbol new_lock c.args.numbers.now c.args.symbol line c.told-numbers room c.if-symbol-gt511.true

pub returns-in_err-characters-clause-checked : goal.returns-in_err-characters-clause-checked
returns-in_err-characters-clause-checked c =
    let p = err_from_is_err_and c.from_residual.result c.from_residual.ensures.1 in
    let h = c.in_err-characters.ensures.their_characters_or_first_place in
    rw p.1 (λ line room. faulted.send_no_character new_lock c.args.numbers.now c.args.symbol line h.0 c.told-numbers room c.if-symbol-gt511.false h.1 ∙ ap Some (ap EndFault.Block (sym h.2) ∙ sym p.2))

pub returns-clause-checked : goal.returns-clause-checked
returns-clause-checked c = λ line room. faulted.send_no_fault new_lock c.args.numbers.now c.args.symbol line c.told-numbers room c.if-symbol-gt511.false c.in_ok-characters.ensures.their_characters_or_first_place.1
