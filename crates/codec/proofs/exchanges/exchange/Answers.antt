use Rattle.std.proofs.Common.{length, get_or, drop, vec_items, refl, ap, ◌∙◌, subst, arith}
use Rattle.std.proofs.lemmas.List.{take_at}
use Rattle.codec.specs.Histories.{history}
use Rattle.codec.specs.Turning.{standing}
use Rattle.codec.proofs.Runs as runs
use Rattle.codec.proofs.WholeLaw.{whole}
use Rattle.codec.proofs.exchanges.exchange.Goals as goal

pub loop-turn-init : goal.loop-turn-init
loop-turn-init g c = runs.so_far_none

pub loop-turn-preserved : goal.loop-turn-preserved
loop-turn-preserved g c =
    let l = c.loop-turn in
    runs.so_far_more c.deref_mut-turn-items.result.now l.turn-items l.turn-index (get_or l.turn-items l.turn-index c.turn-item.result) _
    (omega (arith, l.auto.turn-items)) l.invariant (ap (λ x. get_or l.turn-items l.turn-index x) c.turn-item.is) c.ask-turn.ensures

pub returns : goal.returns
returns g c =
    let S = g.X.Sending.end in
    let R = g.Y.Receiving.end in
    let lock = g.Y.Receiving.lock in
    let l = c.loop-turn in
    let start = standing (S c.args.sender.now) (R c.args.receiver.now) (lock c.args.receiver.now) in
    let here = standing (S l.sender) (R l.receiver) (lock l.receiver) in
    let items = take_at l.turn-items (drop (length l.turn-items) c.args.turns.now.items) c.args.turns.now.len (l.auto.turn-items ∙ c.deref_mut-turn-items.ensures.len) in
    let come : runs.Come start (history (vec_items c.args.turns.now) l.turn-items) here =
    subst (λ xs. runs.Come start (history xs l.turn-items) here) c.deref_mut-turn-items.ensures.value (runs.so_far_all (omega (arith, c.loop-turn-test.false, l.auto.turn-items)) l.invariant) in
    let w = whole (g.met.Y.Receiving.lawful c.args.receiver.now) come in
    rw items (record {
      every_call_is_answered = refl;
      calls_answer_by_their_rules = come.answers;
      refused_exactly_where_stated = w.refused_exactly;
      sent_comes_back = w.sent_comes_back;
      beyond_repair_exactly_when_none_near = w.beyond_repair_exactly_when_none_near;
      accepted_is_near_exactly_one = w.accepted_is_near_exactly_one;
      sender_stands_later = come.sender;
      receiver_stands_later = come.receiver;
      lock_stands = come.lock;
    })
