-- One call of a run, and where both ends stand after it. Assumes nothing.
use Rattle.std.specs.Prelude.{◌≡◌, ℕ, cond, not, ◌&&◌}
use Rattle.codec.specs.Calls.{Call, Answers, is_period, lock_after}
use Rattle.codec.specs.Ends.{End, Later}
use Rattle.codec.specs.Histories.{at_sender}
use Rattle.codec.specs.declared.lock.Lock.{Lock}
use Rattle.codec.specs.declared.request.Outcome.{Outcome}

-- how many periods of the sender, and of the receiver, a call was
abbrev pub sender_period : Call → Outcome → ℕ
sender_period asked outcome = cond (at_sender asked && is_period outcome) 1 0

abbrev pub receiver_period : Call → Outcome → ℕ
receiver_period asked outcome = cond (not (at_sender asked) && is_period outcome) 1 0

-- two ends and the receiver's lock
pub record Standing : Type 0 where
  pub sender : End
  pub receiver : End
  pub lock : Lock

abbrev pub standing : End → End → Lock → Standing
standing sender receiver lock = record { sender = sender; receiver = receiver; lock = lock }

-- a call answered by its rule, from where both ends stood before it to where they stand after it
pub record Turned (before : Standing) (asked left : Call) (outcome : Outcome) (after : Standing) : Type 0 where
  pub answers : cond (at_sender asked) (Answers before.sender 0 before.lock asked left outcome) (Answers before.receiver 0 before.lock asked left outcome)
  pub sender_later : Later (sender_period asked outcome) before.sender after.sender
  pub receiver_later : Later (receiver_period asked outcome) before.receiver after.receiver
  pub lock_later : after.lock ≡ lock_after before.lock outcome
