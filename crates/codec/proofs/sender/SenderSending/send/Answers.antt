use Rattle.std.proofs.Common.{◌≡◌, [], Some, sym, refl, ap, ◌∙◌, ap₂, subst}
use Rattle.codec.specs.Calls.{send, faults, first_of}
use Rattle.codec.specs.Frames.{message_of}
use Rattle.codec.specs.Locks.{new_lock}
use Rattle.refusal.proofs.Arrays.{array_found, array_refused}
use Rattle.codec.proofs.Answering as answering
use Rattle.codec.proofs.Faulted.{send_characters_length, send_line_length}
use Rattle.codec.proofs.sender.SenderSending.send.Goals as goal

pub returns-in_err-numbers : goal.returns-in_err-numbers
returns-in_err-numbers g c =
    let h = c.in_err-numbers.ensures in
    answering.refused _ _ _ _ (send_characters_length new_lock c.args.characters.now c.args.symbol c.args.line.now h.0 ∙ ap Some (sym h.1)) _ c.from_residual.ensures.1

pub returns-in_err-line : goal.returns-in_err-line
returns-in_err-line g c =
    let h = array_refused (λ y. y.now) c.args.line.now c.as_mut_array.ensures.cases c.in_err-line.ensures.ok_part c.in_err-line.ensures.value in
    answering.refused _ _ _ _ (send_line_length new_lock c.args.characters.now c.args.symbol c.args.line.now c.in_ok-numbers.ensures.0 h.0 ∙ ap Some h.1) _ c.from_residual-in_err-line.ensures.1

pub returns-in_err-frame : goal.returns-in_err-frame
returns-in_err-frame g c =
    let room = array_found (λ y. y.now) c.as_mut_array.ensures.cases c.in_ok-line.ensures.ok_part in
    let first = subst (λ cs. first_of (faults new_lock (send cs c.args.symbol c.args.line.now)) ≡ Some c.in_err-frame.field-0.0) c.in_ok-numbers.ensures.1 (c.in_err-frame.ensures.checked c.args.line.now room.0) in
    rw room.1 (answering.refused _ _ _ _ first _ c.from_residual-in_err-frame.ensures.1)

pub returns-clause-answers_by_its_rule : goal.returns-clause-answers_by_its_rule
returns-clause-answers_by_its_rule g c =
    let room = array_found (λ y. y.now) c.as_mut_array.ensures.cases c.in_ok-line.ensures.ok_part in
    let none = subst (λ cs. faults new_lock (send cs c.args.symbol c.args.line.now) ≡ []) c.in_ok-numbers.ensures.1 (c.in_ok-frame.ensures.checked c.args.line.now room.0) in
    let characters = c.in_ok-frame.ensures.parsed.0 ∙ c.in_ok-numbers.ensures.1 in
    answering.performed _ _ _ _ _ _ none
    (c.write_line.new.line, record { word = c.codeword-word.result.symbols; codeword = c.codeword-word.ensures.codeword; carries = c.codeword-word.ensures.carries ∙ ap₂ message_of characters c.in_ok-frame.ensures.parsed.1; written = c.write_line.ensures.written }, refl, refl)
