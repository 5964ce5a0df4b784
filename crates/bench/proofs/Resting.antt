-- What both ends' rests answer. Assumes nothing.
use Rattle.std.proofs.Common.{◌≡◌, ℕ, not, eqb, List, [], ◌++◌, length, replicate, ℤ, pos, None, Ok, Err, sym, refl, ap, ◌∙◌, subst, arith}
use Rattle.codec.specs.Calls.{Answers, Performs, faults, fault_if, receiver_rest, sender_rest, periods_of}
use Rattle.codec.specs.Ends.{End, Later}
use Rattle.codec.specs.Locks.{new_lock}
use Rattle.codec.specs.Refusals.{end_refusal}
use Rattle.codec.specs.declared.faults.EndFault.{EndFault}
use Rattle.codec.specs.declared.lock.Lock.{Lock}
use Rattle.codec.specs.declared.lock.Lock.TheVariants.{Locked, Lost}
use Rattle.codec.specs.declared.request.Outcome.{Outcome}
use Rattle.codec.proofs.Answered.{FirstOr}
use Rattle.codec.proofs.Faulted.{rest_no_fault}
use Rattle.bench.specs.Benches.{Standing, Tells, Rests, both, neither}
use Rattle.bench.specs.Printing.{Answer}

-- a receiver rests only with lock, and refuses only without
has_lock : (end : End) (lock : Lock) → Answers end 0 lock receiver_rest receiver_rest Outcome.Done → lock ≡ Lock.Lost → ⊥
unfolding faults
has_lock end (Locked bad) h e = let z : ◌≡◌ {A = ℕ} 0 1 = cc in omega arith
has_lock end Lost h e = let r = h.1 in let z : ◌≡◌ {A = ℕ} 0 1 = cc in omega arith

no_lock : (end : End) (lock : Lock) (fault : EndFault) → Answers end 0 lock receiver_rest receiver_rest (Outcome.Refused fault) → (lock ≡ Lock.Lost) × (fault ≡ EndFault.NoLock)
unfolding faults
no_lock end (Locked bad) fault h = let r = h.1 in let z : ◌≡◌ {A = ℕ} 0 1 = cc in absurd (omega arith)
no_lock end Lost fault h = let r = h.1 in (refl, cc)

-- a sender rests onto a line of 2,700 symbols
zeros : (end : End) (line left : List ℤ) (outcome : Outcome) → length line ≡ 2700
    → Answers end 0 new_lock (sender_rest line) (sender_rest left) outcome → (left ≡ replicate 2700 (pos 0)) × (outcome ≡ Outcome.Done)
zeros end line left outcome full h =
    let p : Performs end 0 (sender_rest line) (sender_rest left) outcome =
    subst (λ found. FirstOr (Performs end 0 (sender_rest line) (sender_rest left) outcome) found (sender_rest left) (sender_rest line) outcome) (rest_no_fault new_lock line full) h in
    let e = p.0 in
    let same : left ≡ replicate 2700 (pos 0) = cc in
    (same, p.1)

pub both_rest : (before after : Standing) (outcome : Outcome) (answer : Answer) → length before.line ≡ 2700
    → Answers before.receiver 0 before.lock receiver_rest receiver_rest Outcome.Done
    → Later 1 before.receiver after.receiver → after.lock ≡ before.lock
    → Answers before.sender 0 new_lock (sender_rest before.line) (sender_rest after.line) outcome
    → Later (periods_of outcome) before.sender after.sender → Tells outcome answer → Rests before answer after
both_rest before after outcome answer full first receiver lock second sender tells =
    let z = zeros before.sender before.line after.line outcome full second in
    let told : answer ≡ Ok None = subst (λ o. Tells o answer) z.1 tells in
    let later : Later 1 before.sender after.sender = subst (λ o. Later (periods_of o) before.sender after.sender) z.1 sender in
    subst (λ a. Rests before a after) (sym told)
    (both (has_lock before.receiver before.lock first) (record { sender = later; receiver = receiver; lock = lock; line = z.0 }))

pub neither_rests : (before after : Standing) (fault : EndFault) (answer : Answer)
    → Answers before.receiver 0 before.lock receiver_rest receiver_rest (Outcome.Refused fault)
    → Later (periods_of (Outcome.Refused fault)) before.receiver after.receiver → after.lock ≡ before.lock
    → Later 0 before.sender after.sender → after.line ≡ before.line → answer ≡ Err (end_refusal fault) → Rests before answer after
neither_rests before after fault answer first receiver lock sender line told =
    let n = no_lock before.receiver before.lock fault first in
    let later : Later 0 before.receiver after.receiver = subst (λ f. Later (periods_of (Outcome.Refused f)) before.receiver after.receiver) n.1 receiver in
    let e : answer ≡ Err (end_refusal EndFault.NoLock) = told ∙ ap (λ f. Err (end_refusal f)) n.1 in
    subst (λ a. Rests before a after) (sym e)
    (neither n.0 (record { sender = sender; receiver = later; lock = lock; line = line }))
