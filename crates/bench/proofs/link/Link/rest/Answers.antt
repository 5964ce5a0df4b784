use Rattle.std.proofs.Common.{refl, rules}
use Rattle.codec.specs.declared.request.Outcome.{Outcome}
use Rattle.codec.proofs.LaterEnds.{no_later}
use Rattle.bench.proofs.Resting.{both_rest, neither_rests}
use Rattle.bench.proofs.Standing.{told_as}
use Rattle.bench.proofs.link.Link.rest.Goals as goal

pub returns-in_err-rest : goal.returns-in_err-rest
returns-in_err-rest g c =
    let first = c.in_err-rest.ensures in
    neither_rests _ _ c.in_err-rest.field-0.0 _ first.answers_by_its_rule first.stands_later first.lock_stays (no_later _) refl (told_as _ _ _ c.from_residual.ensures.1 refl)

pub returns-in_err-rest-2 : goal.returns-in_err-rest-2
returns-in_err-rest-2 g c =
    let first = c.in_ok-rest.ensures in
    let second = c.in_err-rest-2.ensures in
    both_rest _ _ (Outcome.Refused c.in_err-rest-2.field-0.0) _ (search rules) first.answers_by_its_rule first.stands_later first.lock_stays second.answers_by_its_rule second.stands_later (told_as _ _ _ c.from_residual-in_err-rest-2.ensures.1 refl)

pub returns : goal.returns
returns g c =
    let first = c.in_ok-rest.ensures in
    let second = c.in_ok-rest-2.ensures in
    both_rest _ _ Outcome.Done _ (search rules) first.answers_by_its_rule first.stands_later first.lock_stays second.answers_by_its_rule second.stands_later refl
