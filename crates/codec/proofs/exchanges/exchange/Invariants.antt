use Rattle.codec.specs.Turning.{standing}
use Rattle.codec.proofs.Runs.{SoFar}
use Rattle.codec.proofs.exchanges.exchange.Given as goal

abbrev pub invariant-loop-turn : goal.invariant-loop-turn
invariant-loop-turn g l =
    let S = g.X.Sending.end in
    let R = g.Y.Receiving.end in
    SoFar (standing (S l.initial.sender) (R l.initial.receiver) (g.Y.Receiving.lock l.initial.receiver)) l.initial.turn-items l.turn-index l.turn-items (standing (S l.sender) (R l.receiver) (g.Y.Receiving.lock l.receiver))
