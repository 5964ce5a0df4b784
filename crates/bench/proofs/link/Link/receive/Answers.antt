use Rattle.std.proofs.Common.{◌≡◌, ℕ, List, length, refl, rules}
use Rattle.codec.specs.Calls.{Answers, receive, periods_of, lock_after}
use Rattle.codec.specs.Ends.{Later}
use Rattle.codec.specs.declared.request.Outcome.{Outcome}
use Rattle.codec.proofs.LaterEnds.{no_later}
use Rattle.bench.specs.Benches.{Standing, Tells, Receives}
use Rattle.bench.specs.Printing.{Answer}
use Rattle.bench.proofs.Standing.{told_as}
use Rattle.bench.proofs.link.Link.receive.Goals as goal

-- the receiver has answered, and the sender and the line stand where they stood
received : (before after : Standing) (characters places characters_left places_left : List ℕ) (outcome : Outcome) (answer : Answer)
    → length characters ≡ 450 → length places ≡ 22
    → Answers before.receiver 0 before.lock (receive before.line characters places) (receive before.line characters_left places_left) outcome
    → Later (periods_of outcome) before.receiver after.receiver → after.lock ≡ lock_after before.lock outcome
    → Later 0 before.sender after.sender → after.line ≡ before.line → Tells outcome answer → Receives before answer after
received before after characters places characters_left places_left outcome answer full room answers later lock sender line tells =
    record {
      characters = characters;
      places = places;
      characters_left = characters_left;
      places_left = places_left;
      full = full;
      room = room;
      outcome = outcome;
      answers = answers;
      tells = tells;
      sender = sender;
      receiver = later;
      lock = lock;
      line = line;
    }

pub returns-in_err-report : goal.returns-in_err-report
returns-in_err-report g c =
    let r = c.in_err-report.ensures in
    received _ _ c.args.self.now.characters c.args.self.now.places c.receive.new.characters c.receive.new.places (Outcome.Refused c.in_err-report.field-0.0) _ (search rules) (search rules) r.answers_by_its_rule r.stands_later r.lock_moves (no_later _) refl (told_as _ _ _ c.from_residual.ensures.1 refl)

pub returns : goal.returns
returns g c =
    let r = c.in_ok-report.ensures in
    received _ _ c.args.self.now.characters c.args.self.now.places c.receive.new.characters c.receive.new.places (Outcome.Accepted c.in_ok-report.report) _ (search rules) (search rules) r.answers_by_its_rule r.stands_later r.lock_moves (no_later _) refl refl
