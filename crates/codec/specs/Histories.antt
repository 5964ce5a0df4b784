-- What happened at two ends, call by call. Assumes nothing.
use Rattle.std.specs.Prelude.{◌≡◌, ℕ, Bool, true, false, not, ◌&&◌, T, List, [], ◌∷◌, ◌++◌, ℤ, count_by}
use Rattle.codec.specs.Calls.{Call, send, sender_rest, receive, receiver_rest, content, is_period, lock_after}
use Rattle.codec.specs.declared.request.Turn.{Turn}
use Rattle.codec.specs.declared.lock.Lock.{Lock}
use Rattle.codec.specs.declared.request.Outcome.{Outcome}

-- a call as it was asked, what it left in its buffers, and its outcome
pub record Event : Type 0 where
  pub asked : Call
  pub left : Call
  pub outcome : Outcome

-- the calls as they stood before the run, with what they left and how they came out
abbrev pub history : List Turn → List Turn → List Event
history [] after = []
history (b ∷ before) [] = []
history (b ∷ before) (a ∷ after) =
    record { asked = content b.request; left = content a.request; outcome = a.outcome } ∷ history before after

-- the event is one of the events, and these came ahead of it
abbrev pub Occurs : List Event → List Event → Event → Type 0
Occurs events ahead event = (later : List Event) × (events ≡ ahead ++ event ∷ later)

abbrev pub at_sender : Call → Bool
at_sender (send characters symbol line) = true
at_sender (sender_rest line) = true
at_sender (receive line characters places) = false
at_sender receiver_rest = false

-- how many periods the sender has had, and how many the receiver
unfoldable pub sender_periods : List Event → ℕ
sender_periods events = count_by (λ event. at_sender event.asked && is_period event.outcome) events

unfoldable pub receiver_periods : List Event → ℕ
receiver_periods events = count_by (λ event. not (at_sender event.asked) && is_period event.outcome) events

-- the receiver's lock after these events, from the lock that it had at first
unfoldable pub lock_from : Lock → List Event → Lock
lock_from lock [] = lock
lock_from lock (event ∷ events) = lock_from (lock_after lock event.outcome) events

abbrev pub line_in : Call → List ℤ
line_in (send characters symbol line) = line
line_in (sender_rest line) = line
line_in (receive line characters places) = line
line_in receiver_rest = []

-- the sender's period of this number was a send of these characters and this symbol, and it wrote this line
pub record Sends (events : List Event) (period : ℕ) (characters : List ℕ) (symbol : ℕ) (line : List ℤ) : Type 0 where
  pub event : Event
  pub ahead : List Event
  pub occurs : Occurs events ahead event
  pub counted : sender_periods ahead ≡ period
  pub was_period : T (is_period event.outcome)
  pub buffer : List ℤ
  pub asked : event.asked ≡ send characters symbol buffer
  pub wrote : line_in event.left ≡ line

-- the receiver's period of this number was this event, a receive of this line
pub record Receives (events : List Event) (period : ℕ) (line : List ℤ) (event : Event) : Type 0 where
  pub ahead : List Event
  pub occurs : Occurs events ahead event
  pub counted : receiver_periods ahead ≡ period
  pub was_period : T (is_period event.outcome)
  pub characters : List ℕ
  pub places : List ℕ
  pub asked : event.asked ≡ receive line characters places
