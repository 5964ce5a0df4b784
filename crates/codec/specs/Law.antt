-- The law of what passes between two ends. Assumes nothing.
use Rattle.std.specs.Prelude.{◌≡◌, ℕ, ◌^◌, ◌<◌, ◌≤◌, cond, ◌↔◌, List, [], ◌∷◌, length, ℤ, None}
use Rattle.codec.specs.Calls.{Call, send, sender_rest, receive, receiver_rest, faults, beyond_repair, Answers}
use Rattle.codec.specs.Ends.{End}
use Rattle.codec.specs.Frames.{symbol_of, block_at, ten_at}
use Rattle.codec.specs.Histories.{Event, Occurs, Sends, Receives, at_sender, sender_periods, receiver_periods, lock_from}
use Rattle.codec.specs.Lines.{Near, NoneNear, line_frame, differing, apart, padded}
use Rattle.codec.specs.Refusals.{end_refusal}
use Rattle.codec.specs.Reports.{BlockTold, FirstFault}
use Rattle.codec.specs.declared.lock.Lock.{Lock}
use Rattle.codec.specs.declared.report.Report.{Report}
use Rattle.codec.specs.declared.request.Outcome.TheVariants.{Accepted, Refused}
use Rattle.codec.specs.declared.faults.EndFault.{EndFault}

-- Every call is answered as its rule says, each end counting its own periods. The lock is that of the receiver at first.
abbrev pub EveryCallAnswers : End → End → Lock → List Event → Type 0
EveryCallAnswers sender receiver lock events =
    (ahead : List Event) (event : Event) → Occurs events ahead event
    → cond (at_sender event.asked)
    (Answers sender (sender_periods ahead) (lock_from lock ahead) event.asked event.left event.outcome)
    (Answers receiver (receiver_periods ahead) (lock_from lock ahead) event.asked event.left event.outcome)

-- Where a period of the sender was a send, and the receiver's period of that number a receive of a line at most 22 groups apart
-- from the one sent, the receiver handed out the characters and the symbol sent, and as places exactly the groups that differ.
abbrev pub SentComesBack : List Event → Type 0
SentComesBack events =
    (period : ℕ) (characters : List ℕ) (symbol : ℕ) (sent line : List ℤ) (event : Event)
    → Sends events period characters symbol sent → Receives events period line event → apart line sent ≤ 22
    → (event.left ≡ receive line characters (padded (differing line sent)))
    × (event.outcome ≡ Accepted (record { symbol = symbol; places = apart line sent; invalid = 0; fault = None }))

-- A receive is beyond repair exactly when no codeword's line frame of its period lies within 22 groups of what it was given.
abbrev pub BeyondRepairExactlyWhenNoneNear : End → List Event → Type 0
BeyondRepairExactlyWhenNoneNear receiver events =
    (period : ℕ) (line : List ℤ) (event : Event) → Receives events period line event
    → (event.outcome ≡ Refused beyond_repair) ↔ NoneNear receiver period line

-- what is told of the one codeword near an accepted frame
pub record TellsOfCodeword (end : End) (period : ℕ) (line : List ℤ) (word : List ℕ) (left : Call) (report : Report) : Type 0 where
  pub near : Near end period line word
  pub only : (other : List ℕ) → Near end period line other → other ≡ word
  pub symbol : report.symbol ≡ symbol_of word
  pub count : report.places ≡ apart line (line_frame end period word)
  pub characters : List ℕ
  pub leaves : left ≡ receive line characters (padded (differing line (line_frame end period word)))
  pub full : length characters ≡ 450
  pub blocks : (k : ℕ) → k < 45 → BlockTold report.invalid k (block_at word k) (ten_at characters k)
  pub no_further : report.invalid < 2 ^ 45
  pub first_fault : FirstFault word report.fault

-- An accepted frame lies within 22 groups of exactly one codeword's line frame of its period, and the answer tells of that codeword.
abbrev pub AcceptedIsNearExactlyOne : End → List Event → Type 0
AcceptedIsNearExactlyOne receiver events =
    (period : ℕ) (line : List ℤ) (event : Event) (report : Report) → Receives events period line event → event.outcome ≡ Accepted report
    → (word : List ℕ) × TellsOfCodeword receiver period line word event.left report

-- a receive that no codeword is near
abbrev pub Hopeless : End → ℕ → Call → Type 0
Hopeless end period (send characters symbol line) = ⊥
Hopeless end period (sender_rest line) = ⊥
Hopeless end period (receive line characters places) = NoneNear end period line
Hopeless end period receiver_rest = ⊥

-- the fault with which the rules refuse a call: the first for which it is no period or, where there is none, beyond repair
abbrev pub Refuses : End → ℕ → Lock → Call → EndFault → Type 0
Refuses receiver period lock asked fault =
    elim (faults lock asked) [ [] ↦ Hopeless receiver period asked × (fault ≡ beyond_repair) | first ∷ more ↦ fault ≡ first ]

-- Calls are refused exactly where the rules say so, and a refused call that was no period has changed nothing.
pub record RefusedExactly (receiver : End) (lock : Lock) (events : List Event) : Type 0 where
  pub where_stated : (ahead : List Event) (event : Event) (fault : EndFault) → Occurs events ahead event
      → (event.outcome ≡ Refused fault) ↔ Refuses receiver (receiver_periods ahead) (lock_from lock ahead) event.asked fault
  pub untouched : (ahead : List Event) (event : Event) (fault : EndFault) → Occurs events ahead event
      → event.outcome ≡ Refused fault → (end_refusal fault).number < 7 → event.left ≡ event.asked
