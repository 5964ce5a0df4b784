-- What each call must answer, and what it must leave in every buffer. Assumes nothing.
use Rattle.std.specs.Prelude.{◌≡◌, ℕ, Bool, true, false, cond, not, ◌||◌, ◌⊎◌, List, [], ◌∷◌, length, take, replicate, ℤ, pos, Some, None, Ok, Err, vec_items, Option, Result, ◌==◌, nat_lt}
use Rattle.std.specs.List.{flat_map, prefix_len}
use Rattle.blocks.specs.declared.faults.BlockFault.{BlockFault}
use Rattle.code.specs.Words.{Codeword}
use Rattle.code.specs.declared.fault.CodeFault.{CodeFault}
use Rattle.lines.specs.LineCodes.{is_line_symbol}
use Rattle.arithmetic.specs.Laws.{Operations}
use Rattle.codec.specs.Ends.{End, made_over}
use Rattle.codec.specs.Frames.{message_of, symbol_of}
use Rattle.codec.specs.Lines.{Near, NoneNear, line_frame, differing, padded}
use Rattle.codec.specs.Locks.{next_lock}
use Rattle.codec.specs.Refusals.{end_refusal}
use Rattle.codec.specs.Reports.{FrameTold}
use Rattle.codec.specs.declared.faults.LineFault.{LineFault}
use Rattle.codec.specs.declared.faults.EndFault.{EndFault}
use Rattle.codec.specs.declared.lock.Lock.{Lock}
use Rattle.codec.specs.declared.lock.Lock.TheVariants.{Locked, Lost}
use Rattle.codec.specs.declared.lock.FrameOutcome.{FrameOutcome}
use Rattle.arithmetic.specs.declared.Arithmetic.{Ghosts}
use Rattle.codec.specs.declared.ends.Parts.{Parts}
use Rattle.codec.specs.declared.ends.Sender.{Sender}
use Rattle.codec.specs.declared.ends.Receiver.{Receiver}
use Rattle.codec.specs.declared.report.Report.{Report}
use Rattle.codec.specs.declared.request.Request.{Request}
use Rattle.codec.specs.declared.request.Request.TheVariants.{Send, SenderRest, Receive, ReceiverRest}
use Rattle.codec.specs.declared.request.Outcome.{Outcome}
use Rattle.codec.specs.declared.request.Outcome.TheVariants.{Unanswered, Done, Accepted, Refused}

-- a call, with what its buffers hold, in the order in which they are given
pub data Call : Type 0 where
  send : (characters : List ℕ) (symbol : ℕ) (line : List ℤ) → Call
  sender_rest : (line : List ℤ) → Call
  receive : (line : List ℤ) (characters places : List ℕ) → Call
  receiver_rest : Call

-- a data octet, idle with the partner not ready, error, idle with the partner ready, low power
abbrev pub is_character : ℕ → Bool
is_character c = nat_lt c 256 || c == 256 || c == 257 || c == 258 || c == 261

-- one fault, where the test passes
abbrev pub fault_if : Bool → EndFault → List EndFault
fault_if true fault = fault ∷ []
fault_if false fault = []

abbrev pub without_lock : Lock → List EndFault
without_lock (Locked bad) = []
without_lock Lost = EndFault.NoLock ∷ []

abbrev pub wrong_length : {X : Type 0} → ℕ → ℕ → List X → List EndFault
wrong_length buffer right xs = fault_if (not (length xs == right)) (EndFault.Length buffer)

-- the place of the first that is not of the kind asked for
abbrev pub wrong_number : {X : Type 0} → (X → Bool) → (ℕ → EndFault) → List X → List EndFault
wrong_number kind fault xs = fault_if (nat_lt (prefix_len kind xs) (length xs)) (fault (prefix_len kind xs))

-- the faults for which a call is no period, in the order in which they are checked
abbrev pub checks : Lock → Call → List (List EndFault)
checks lock (send characters symbol line) =
    wrong_length 0 450 characters
    ∷ wrong_length 1 2700 line
    ∷ fault_if (nat_lt 511 symbol) EndFault.ManagementSymbol
    ∷ wrong_number is_character (λ place. EndFault.Block (BlockFault.NoCharacter place)) characters
    ∷ []
checks lock (sender_rest line) = wrong_length 0 2700 line ∷ []
checks lock (receive line characters places) =
    without_lock lock
    ∷ wrong_length 0 2700 line
    ∷ wrong_length 1 450 characters
    ∷ wrong_length 2 22 places
    ∷ wrong_number is_line_symbol (λ place. EndFault.Line (LineFault.NoLineSymbol place)) line
    ∷ []
checks lock receiver_rest = without_lock lock ∷ []

unfoldable pub faults : Lock → Call → List EndFault
faults lock call = flat_map (λ found. found) (checks lock call)

-- the first of the faults found
abbrev pub first_of : List EndFault → Option EndFault
first_of [] = None
first_of (fault ∷ more) = Some fault

abbrev pub beyond_repair : EndFault
beyond_repair = EndFault.Code CodeFault.BeyondRepair

-- the line is the line frame of a codeword that carries the characters and the symbol
pub record LineSent (end : End) (period : ℕ) (characters : List ℕ) (symbol : ℕ) (line : List ℤ) : Type 0 where
  pub word : List ℕ
  pub codeword : Codeword end.field word
  pub carries : take 406 word ≡ message_of characters symbol
  pub written : line ≡ line_frame end period word

-- what is told of a word by a report, and handed out of it
pub record Told (word characters places : List ℕ) (report : Report) : Type 0 where
  pub symbol : report.symbol ≡ symbol_of word
  pub count : report.places ≡ length places
  pub frame : FrameTold word characters report.invalid report.fault

-- some codeword is near: its characters block after block, the groups that differ from its line frame, and its report
pub record Accepts (end : End) (period : ℕ) (line : List ℤ) (left : Call) (outcome : Outcome) : Type 0 where
  pub word : List ℕ
  pub near : Near end period line word
  pub characters : List ℕ
  pub report : Report
  pub told : Told word characters (differing line (line_frame end period word)) report
  pub leaves : left ≡ receive line characters (padded (differing line (line_frame end period word)))
  pub reports : outcome ≡ Accepted report

-- no codeword is near: errors in place of all characters, and no place
pub record GivesUp (end : End) (period : ℕ) (line : List ℤ) (left : Call) (outcome : Outcome) : Type 0 where
  pub none_near : NoneNear end period line
  pub leaves : left ≡ receive line (replicate 450 257) (replicate 22 450)
  pub reports : outcome ≡ Refused beyond_repair

-- a call without such a fault, in this period of its end
abbrev pub Performs : End → ℕ → Call → Call → Outcome → Type 0
Performs end period (send characters symbol buffer) left outcome =
    (line : List ℤ) × LineSent end period characters symbol line × (left ≡ send characters symbol line) × (outcome ≡ Done)
Performs end period (sender_rest buffer) left outcome = (left ≡ sender_rest (replicate 2700 (pos 0))) × (outcome ≡ Done)
Performs end period (receive line characters places) left outcome = Accepts end period line left outcome ⊎ GivesUp end period line left outcome
Performs end period receiver_rest left outcome = (left ≡ receiver_rest) × (outcome ≡ Done)

-- what a call asked in this period, with this lock, leaves and answers: its first fault refuses it, and then nothing is written
abbrev pub Answers : End → ℕ → Lock → Call → Call → Outcome → Type 0
Answers end period lock asked left outcome =
    elim (faults lock asked) [ [] ↦ Performs end period asked left outcome | fault ∷ more ↦ (left ≡ asked) × (outcome ≡ Refused fault) ]

-- a call was a period when it was not refused by 1 to 6
abbrev pub is_period : Outcome → Bool
is_period Unanswered = false
is_period Done = true
is_period (Accepted report) = true
is_period (Refused fault) = nat_lt 6 (end_refusal fault).number

abbrev pub periods_of : Outcome → ℕ
periods_of outcome = cond (is_period outcome) 1 0

-- only an accepted frame and one beyond repair move the lock
abbrev pub lock_after : Lock → Outcome → Lock
lock_after lock Unanswered = lock
lock_after lock Done = lock
lock_after lock (Accepted report) = next_lock lock FrameOutcome.Accepted
lock_after lock (Refused fault) = cond (is_period (Refused fault)) (next_lock lock FrameOutcome.BeyondRepair) lock

-- what a request holds
abbrev pub content : Request → Call
content (Send characters symbol line) = send (vec_items characters) symbol (vec_items line)
content (SenderRest line) = sender_rest (vec_items line)
content (Receive line characters places) = receive (vec_items line) (vec_items characters) (vec_items places)
content ReceiverRest = receiver_rest

-- what a request or a call of an end is about, from the end's parts
abbrev pub parts_end : {A S L : Type 0} {g : Ghosts A} → (A → Operations) → (S → ℕ → ℕ) → (L → ℕ → ℤ × ℤ) → Parts A S L g → End
parts_end field mask pair parts = made_over (field parts.code.arithmetic) (mask parts.stream) (pair parts.line_code)

abbrev pub sender_end : {A S L : Type 0} {g : Ghosts A} → (A → Operations) → (S → ℕ → ℕ) → (L → ℕ → ℤ × ℤ) → Sender A S L g → End
sender_end field mask pair end = parts_end field mask pair end.parts

abbrev pub receiver_end : {A S L : Type 0} {g : Ghosts A} → (A → Operations) → (S → ℕ → ℕ) → (L → ℕ → ℤ × ℤ) → Receiver A S L g → End
receiver_end field mask pair end = parts_end field mask pair end.parts

-- the outcome of a send or a rest, and of a receive
abbrev pub done : {X : Type 0} → Result X EndFault → Outcome
done (Ok x) = Done
done (Err fault) = Refused fault

abbrev pub accepted : Result Report EndFault → Outcome
accepted (Ok report) = Accepted report
accepted (Err fault) = Refused fault
