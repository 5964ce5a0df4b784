-- What a record does to a bench, and what is told of it. Assumes nothing.
use Rattle.std.specs.Prelude.{◌≡◌, ℕ, ◌<◌, ◌⊎◌, List, length, replicate, ℤ, pos, Option, Some, None, Result, Ok, Err, ◌≢◌, slice_set}
use Rattle.refusal.specs.declared.kinds.Refusal.{Refusal}
use Rattle.arithmetic.specs.Laws.{Operations}
use Rattle.arithmetic.specs.declared.Arithmetic.{Ghosts}
use Rattle.codec.specs.Calls.{Answers, send, receive, periods_of, lock_after, sender_end, receiver_end}
use Rattle.codec.specs.Ends.{End, Later}
use Rattle.codec.specs.Locks.{new_lock}
use Rattle.codec.specs.Refusals.{end_refusal}
use Rattle.codec.specs.declared.ends.Sender.{Sender}
use Rattle.codec.specs.declared.ends.Receiver.{Receiver}
use Rattle.codec.specs.declared.faults.EndFault.{EndFault}
use Rattle.codec.specs.declared.lock.Lock.{Lock}
use Rattle.codec.specs.declared.report.Report.{Report}
use Rattle.codec.specs.declared.request.Outcome.{Outcome}
use Rattle.bench.specs.Records.{FitsKind, FitsNoKind, send_payload, IsHit, IsNoHit}
use Rattle.bench.specs.Printing.{Answer}
use Rattle.bench.specs.Refusals.{bench_refusal}
use Rattle.bench.specs.declared.bench.Bench.{Bench}
use Rattle.bench.specs.declared.faults.BenchFault.{BenchFault}
use Rattle.bench.specs.declared.head.Head.{Head}
use Rattle.bench.specs.declared.head.Kind.{Kind}
use Rattle.bench.specs.declared.link.Link.{Link}
use Rattle.bench.specs.declared.payload.Hit.{Hit}

-- two ends, the receiver's lock, and the line between them
pub record Standing : Type 0 where
  pub sender : End
  pub receiver : End
  pub lock : Lock
  pub line : List ℤ

-- where two ends and a line stand, from what the ends and the lock are
abbrev pub link_standing : {X Y : Type 0} → (X → End) → (Y → End) → (Y → Lock) → Link X Y → Standing
link_standing sender receiver lock link = record { sender = sender link.sender; receiver = receiver link.receiver; lock = lock link.receiver; line = link.line }

-- where a bench stands
abbrev pub standing : {A S L : Type 0} {g : Ghosts A} → (A → Operations) → (S → ℕ → ℕ) → (L → ℕ → ℤ × ℤ) → Bench A S L g → Standing
standing field mask pair bench = link_standing (sender_end field mask pair) (receiver_end field mask pair) (λ r. r.lock) bench.link

-- where a new bench stands: its line is zeros
abbrev pub stands_new : {A S L : Type 0} {g : Ghosts A} → (A → Operations) → (S → ℕ → ℕ) → (L → ℕ → ℤ × ℤ) → Sender A S L g → Receiver A S L g → Standing
stands_new field mask pair sender receiver =
    record { sender = sender_end field mask pair sender; receiver = receiver_end field mask pair receiver; lock = receiver.lock; line = replicate 2700 (pos 0) }

-- nothing has changed: both ends are no period later
pub record Unchanged (before after : Standing) : Type 0 where
  pub sender : Later 0 before.sender after.sender
  pub receiver : Later 0 before.receiver after.receiver
  pub lock : after.lock ≡ before.lock
  pub line : after.line ≡ before.line

-- what is told of a call's outcome: the report of an accepted frame, or the refusal of the end
abbrev pub Tells : Outcome → Answer → Type 0
Tells Outcome.Unanswered answer = ⊥
Tells Outcome.Done answer = answer ≡ Ok None
Tells (Outcome.Accepted report) answer = answer ≡ Ok (Some report)
Tells (Outcome.Refused fault) answer = answer ≡ Err (end_refusal fault)

-- a send's payload is sent: the sender's send onto the line
pub record Sends (before : Standing) (payload : List ℕ) (answer : Answer) (after : Standing) : Type 0 where
  pub symbol : ℕ
  pub characters : List ℕ
  pub carried : payload ≡ send_payload symbol characters
  pub outcome : Outcome
  pub answers : Answers before.sender 0 new_lock (send characters symbol before.line) (send characters symbol after.line) outcome
  pub tells : Tells outcome answer
  pub sender : Later (periods_of outcome) before.sender after.sender
  pub receiver : Later 0 before.receiver after.receiver
  pub lock : after.lock ≡ before.lock

-- the line is received, into buffers of the right lengths
pub record Receives (before : Standing) (answer : Answer) (after : Standing) : Type 0 where
  pub characters : List ℕ
  pub places : List ℕ
  pub characters_left : List ℕ
  pub places_left : List ℕ
  pub full : length characters ≡ 450
  pub room : length places ≡ 22
  pub outcome : Outcome
  pub answers : Answers before.receiver 0 before.lock (receive before.line characters places) (receive before.line characters_left places_left) outcome
  pub tells : Tells outcome answer
  pub sender : Later 0 before.sender after.sender
  pub receiver : Later (periods_of outcome) before.receiver after.receiver
  pub lock : after.lock ≡ lock_after before.lock outcome
  pub line : after.line ≡ before.line

-- the refusal of a record of this number that is none
abbrev pub bad : ℕ → Answer
bad number = Err (bench_refusal (BenchFault.BadRecord number))

-- a place of the line has another symbol
pub record Struck (before : Standing) (hit : Hit) (after : Standing) : Type 0 where
  pub sender : Later 0 before.sender after.sender
  pub receiver : Later 0 before.receiver after.receiver
  pub lock : after.lock ≡ before.lock
  pub line : after.line ≡ slice_set before.line hit.place hit.symbol

-- a hit's payload, the record's number and what becomes of it
pub data Hits (before : Standing) (number : ℕ) (payload : List ℕ) : Answer → Standing → Type 0 where
  in_range : {hit : Hit} {after : Standing} → IsHit payload hit → Struck before hit after → Hits before number payload (Ok None) after
  out_of_range : {after : Standing} → IsNoHit payload → Unchanged before after → Hits before number payload (bad number) after

-- both ends are a period later, and the line is zeros
pub record Rested (before after : Standing) : Type 0 where
  pub sender : Later 1 before.sender after.sender
  pub receiver : Later 1 before.receiver after.receiver
  pub lock : after.lock ≡ before.lock
  pub line : after.line ≡ replicate 2700 (pos 0)

-- the receiver rests and then the sender, or neither
pub data Rests (before : Standing) : Answer → Standing → Type 0 where
  both : {after : Standing} → (before.lock ≢ Lock.Lost) → Rested before after → Rests before (Ok None) after
  neither : {after : Standing} → before.lock ≡ Lock.Lost → Unchanged before after → Rests before (Err (end_refusal EndFault.NoLock)) after

-- a record of this number, with its head and payload: what is told of it, and where the bench stands then
pub data Carries (before : Standing) (number : ℕ) (head : Head) (payload : List ℕ) : Answer → Standing → Type 0 where
  bad_head : {after : Standing} → FitsNoKind head → Unchanged before after → Carries before number head payload (bad number) after
  sends : {answer : Answer} {after : Standing} → FitsKind head Kind.Send → Sends before payload answer after → Carries before number head payload answer after
  hits : {answer : Answer} {after : Standing} → FitsKind head Kind.Hit → Hits before number payload answer after → Carries before number head payload answer after
  receives : {answer : Answer} {after : Standing} → FitsKind head Kind.Receive → Receives before answer after → Carries before number head payload answer after
  rests : {answer : Answer} {after : Standing} → FitsKind head Kind.Rest → Rests before answer after → Carries before number head payload answer after

-- what is told of a record: a fault by its refusal
abbrev pub answered : Result (Option Report) BenchFault → Answer
answered (Ok report) = Ok report
answered (Err fault) = Err (bench_refusal fault)

-- a refusal other than of a frame beyond repair: 1 to 6 of an end, or 11 and 12 of a record
abbrev pub NoPeriod : Refusal → Type 0
NoPeriod refusal = (refusal.number < 7) ⊎ (10 < refusal.number)

-- a record that is so refused leaves the bench where it stood
abbrev pub RefusedChangesNothing : Standing → Answer → Standing → Type 0
RefusedChangesNothing before answer after = (refusal : Refusal) → answer ≡ Err refusal → NoPeriod refusal → Unchanged before after
