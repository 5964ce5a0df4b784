use Rattle.std.proofs.Common.{Some, sym, refl, ap, ◌∙◌}
use Rattle.codec.specs.Calls.{receiver_end}
use Rattle.codec.proofs.Answering as answering
use Rattle.codec.proofs.Faulted.{receiver_rest_found, receiver_rest_lost}
use Rattle.codec.proofs.receiver.ReceiverReceiving.rest.Goals as goal

pub returns-in_err-check_lock : goal.returns-in_err-check_lock
returns-in_err-check_lock g c =
    let h = c.in_err-check_lock.ensures in
    let kept = answering.refused _ _ _ _ (receiver_rest_lost c.args.self.now.lock h.0 ∙ ap Some (sym h.1)) _ c.from_residual.ensures.1 in
    record { answers_by_its_rule = kept.answers_by_its_rule; stands_later = kept.stands_later; lock_stays = refl }

pub returns : goal.returns
returns g c =
    let end = receiver_end g.A.Arithmetic.field g.S.Stream.mask g.L.LineCode.pair c.args.self.now in
    record {
      answers_by_its_rule = answering.performed end 0 _ _ _ _ (receiver_rest_found c.args.self.now.lock c.in_ok-check_lock.ensures) (refl, refl);
      stands_later = c.pass_masks.ensures.stands_later;
      lock_stays = refl;
    }
