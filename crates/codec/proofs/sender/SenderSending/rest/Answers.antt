use Rattle.std.proofs.Common.{length, replicate, pos, Some, refl, ap, ◌∙◌}
use Rattle.codec.specs.Calls.{sender_rest, sender_end}
use Rattle.codec.specs.Locks.{new_lock}
use Rattle.codec.proofs.Faulted.{rest_line_length, rest_no_fault}
use Rattle.refusal.proofs.Arrays.{array_found, array_refused}
use Rattle.codec.proofs.Answering as answering
use Rattle.codec.proofs.sender.SenderSending.rest.Goals as goal

pub returns-in_err-line : goal.returns-in_err-line
returns-in_err-line g c =
    let h = array_refused (λ y. y.now) c.args.line.now c.as_mut_array.ensures.cases c.in_err-line.ensures.ok_part c.in_err-line.ensures.value in
    answering.refused _ _ _ _ (rest_line_length new_lock c.args.line.now h.0 ∙ ap Some h.1) _ c.from_residual.ensures.1

pub returns-clause-answers_by_its_rule : goal.returns-clause-answers_by_its_rule
returns-clause-answers_by_its_rule g c =
    let end = sender_end g.A.Arithmetic.field g.S.Stream.mask g.L.LineCode.pair c.args.self.now in
    let room = array_found (λ y. y.now) c.as_mut_array.ensures.cases c.in_ok-line.ensures.ok_part in
    let zeros = c.fill.ensures.after (λ y e. e) ∙ ap (λ n. replicate n (pos 0)) (ap length room.1 ∙ room.0) in
    answering.performed end 0 _ _ _ _ (rest_no_fault new_lock c.args.line.now room.0) (ap sender_rest zeros, refl)
