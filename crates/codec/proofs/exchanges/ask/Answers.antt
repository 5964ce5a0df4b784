use Rattle.std.proofs.Common.{length, drop, ◌∙◌}
use Rattle.std.proofs.lemmas.List.{take_at}
use Rattle.codec.proofs.OneCall as one
use Rattle.codec.proofs.exchanges.ask.Goals as goal

pub returns-in-Send : goal.returns-in-Send
returns-in-Send g c =
    let line = take_at c.send.new.line (drop (length c.send.new.line) c.in-Send.line.items) c.in-Send.line.len (c.send.auto.line ∙ c.deref_mut.ensures.len) in
    rw (c.in-Send.is, c.into.ensures, line, ← c.deref.ensures.value, ← c.deref_mut.ensures.value)
    (one.sent c.send.ensures.answers_by_its_rule c.send.ensures.stands_later)

pub returns-in-SenderRest : goal.returns-in-SenderRest
returns-in-SenderRest g c =
    let line = take_at c.rest.new.line (drop (length c.rest.new.line) c.in-SenderRest.line.items) c.in-SenderRest.line.len (c.rest.auto.line ∙ c.deref_mut-in-SenderRest.ensures.len) in
    rw (c.in-SenderRest.is, c.into-in-SenderRest.ensures, line, ← c.deref_mut-in-SenderRest.ensures.value)
    (one.rested c.rest.ensures.answers_by_its_rule c.rest.ensures.stands_later)

pub returns-in-ReceiverRest : goal.returns-in-ReceiverRest
returns-in-ReceiverRest g c =
    rw (c.in-ReceiverRest.is, c.into-in-ReceiverRest.ensures)
    (one.receiver_rested c.rest-in-ReceiverRest.ensures.answers_by_its_rule c.rest-in-ReceiverRest.ensures.stands_later c.rest-in-ReceiverRest.ensures.lock_stays)
