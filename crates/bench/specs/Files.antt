-- The records of a file, one after another, and where it ends. Assumes nothing.
use Rattle.std.specs.Prelude.{◌≡◌, ℕ, ◌+◌, ◌%◌, ◌^◌, ◌<◌, ◌≤◌, List, [], ◌++◌, length, take, drop, Err, ◌≢◌}
use Rattle.bench.specs.Records.{two_octets, FitsNoKind}
use Rattle.bench.specs.Printing.{line_of}
use Rattle.bench.specs.Refusals.{bench_refusal}
use Rattle.bench.specs.Benches.{Standing, Carries, bad}
use Rattle.bench.specs.declared.bench.Step.{Step}
use Rattle.bench.specs.declared.faults.BenchFault.{BenchFault}
use Rattle.bench.specs.declared.head.Head.{Head}
use Rattle.bench.specs.declared.printed.Printed.{Printed}

-- a head: the length of the payload, then the kind
abbrev pub head_octets : Head → List ℕ
head_octets head = two_octets head.length ++ two_octets head.kind

-- a whole record: its head, and a payload of the length that the head says
pub record IsRecord (octets : List ℕ) (head : Head) (payload : List ℕ) : Type 0 where
  pub written : octets ≡ head_octets head ++ payload
  pub full : length payload ≡ head.length

-- no whole record stands at the front
abbrev pub NoRecord : List ℕ → Type 0
NoRecord octets = (head : Head) (payload one rest : List ℕ) → IsRecord one head payload → octets ≢ one ++ rest

-- records are counted modulo 2^64
abbrev pub next_number : ℕ → ℕ
next_number number = (number + 1) % 2 ^ 64

-- the record at the front of octets is carried out, and nothing of what follows it is looked at
pub record Steps (before : Standing) (number : ℕ) (octets : List ℕ) (step : Step) (after : Standing) (next : ℕ) : Type 0 where
  pub head : Head
  pub payload : List ℕ
  pub inside : step.taken ≤ length octets
  pub is_record : IsRecord (take step.taken octets) head payload
  pub carries : Carries before number head payload step.printed.answer after
  pub kind : step.printed.kind ≡ head.kind
  pub counted : next ≡ next_number number

-- records one after another, with the lines that are printed of them
pub data Runs (before : Standing) (number : ℕ) : List ℕ → List ℕ → Standing → ℕ → Type 0 where
  none : Runs before number [] [] before number
  more : {octets text one payload : List ℕ} {at after : Standing} {k next : ℕ} {head : Head} {printed : Printed}
      → Runs before number octets text at k → IsRecord one head payload → Carries at k head payload printed.answer after → printed.kind ≡ head.kind → next ≡ next_number k
      → Runs before number (octets ++ one) (text ++ line_of printed) after next

-- the whole records at the front of octets, as many as there are, and the lines that are added to what was printed
pub record Ran (before : Standing) (number : ℕ) (octets : List ℕ) (printed : List ℕ) (taken : ℕ) (after : Standing) (next : ℕ) (left : List ℕ) : Type 0 where
  pub text : List ℕ
  pub added : left ≡ printed ++ text
  pub inside : taken ≤ length octets
  pub runs : Runs before number (take taken octets) text after next
  pub no_more : NoRecord (drop taken octets)

-- what is printed of a record of this number that is cut
abbrev pub cut : ℕ → Printed
cut number = record { kind = 0; answer = Err (bench_refusal (BenchFault.CutRecord number)) }

-- what is printed of a record of this number whose head fits no kind
pub record Misfit (number : ℕ) (octets : List ℕ) (printed : Printed) : Type 0 where
  pub head : Head
  pub front : take 4 octets ≡ head_octets head
  pub fits_none : FitsNoKind head
  pub kind : printed.kind ≡ head.kind
  pub answer : printed.answer ≡ bad number

-- no head, or one that fits a kind
abbrev pub NoMisfit : List ℕ → Type 0
NoMisfit octets = (head : Head) → take 4 octets ≡ head_octets head → FitsNoKind head → ⊥

-- what is printed where a file ends with octets that are no whole record
pub data Ends (number : ℕ) : List ℕ → List ℕ → Type 0 where
  between : Ends number [] []
  inside : {rest : List ℕ} → 0 < length rest → NoMisfit rest → Ends number rest (line_of (cut number))
  inside_misfit : {rest : List ℕ} {printed : Printed} → Misfit number rest printed → Ends number rest (line_of printed ++ line_of (cut number))

-- such lines, added to what was printed
pub record Ended (number : ℕ) (rest printed left : List ℕ) : Type 0 where
  pub text : List ℕ
  pub added : left ≡ printed ++ text
  pub ends : Ends number rest text
