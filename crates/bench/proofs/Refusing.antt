-- A refused record leaves the bench where it stood. Assumes nothing.
use Rattle.std.proofs.Common.{◌≡◌, ℕ, false, cond, List, [], ◌∷◌, Err, refl, ap, ◌∙◌, subst, ⊎_elim, arith}
use Rattle.refusal.specs.declared.kinds.Refusal.{Refusal}
use Rattle.blocks.specs.declared.faults.BlockFault.TheVariants.{InputLength, OutputLength, NoCharacter, InvalidPointer, ReservedCode}
use Rattle.code.specs.declared.fault.CodeFault.{CodeFault}
use Rattle.code.specs.declared.fault.CodeFault.TheVariants.{SymbolTooLarge, BeyondRepair}
use Rattle.codec.specs.Calls.{Call, Performs, faults, send, is_period, periods_of, lock_after}
use Rattle.codec.specs.Ends.{End, Later}
use Rattle.codec.specs.Locks.{new_lock, next_lock}
use Rattle.codec.specs.Refusals.{end_refusal}
use Rattle.codec.specs.declared.faults.EndFault.{EndFault}
use Rattle.codec.specs.declared.faults.LineFault.TheVariants.{NoLineSymbol}
use Rattle.codec.specs.declared.lock.FrameOutcome.{FrameOutcome}
use Rattle.codec.specs.declared.request.Outcome.{Outcome}
use Rattle.codec.proofs.Answered.{FirstOr}
use Rattle.bench.specs.Benches.{Standing, Unchanged, Tells, Sends, in_range, out_of_range, Receives, both, neither, Carries, bad_head, sends, hits, receives, rests, NoPeriod, RefusedChangesNothing}
use Rattle.bench.specs.declared.head.Head.{Head}
use Rattle.bench.specs.Printing.{Answer}

-- the faults of an end that are refused with 1 to 6 are no period
no_period : (fault : EndFault) → NoPeriod (end_refusal fault) → is_period (Outcome.Refused fault) ≡ false
no_period EndFault.NoLock h = refl
no_period (EndFault.Length buffer) h = refl
no_period EndFault.ManagementSymbol h = refl
no_period (EndFault.Block InputLength) h = refl
no_period (EndFault.Block OutputLength) h = refl
no_period (EndFault.Block (NoCharacter place)) h = refl
no_period (EndFault.Block (InvalidPointer octet)) h = absurd (⊎_elim (λ x. omega arith) (λ x. omega arith) h)
no_period (EndFault.Block (ReservedCode octet)) h = absurd (⊎_elim (λ x. omega arith) (λ x. omega arith) h)
no_period (EndFault.Line (NoLineSymbol place)) h = refl
no_period (EndFault.Code CodeFault.Length) h = refl
no_period (EndFault.Code (SymbolTooLarge place)) h = refl
no_period (EndFault.Code BeyondRepair) h = absurd (⊎_elim (λ x. omega arith) (λ x. omega arith) h)

-- a call that is told as refused was refused, with the fault that is told
told_fault : (outcome : Outcome) (refusal : Refusal) → Tells outcome (Err refusal) → NoPeriod refusal → (fault : EndFault) × (outcome ≡ Outcome.Refused fault) × (is_period outcome ≡ false)
told_fault Outcome.Unanswered refusal t h = absurd t
told_fault Outcome.Done refusal t h = cc
told_fault (Outcome.Accepted report) refusal t h = cc
told_fault (Outcome.Refused fault) refusal t h =
    let is : refusal ≡ end_refusal fault = cc in
    (fault, refl, no_period fault (subst NoPeriod is h))

stays : (a b : End) (outcome : Outcome) → is_period outcome ≡ false → Later (periods_of outcome) a b → Later 0 a b
stays a b outcome e later = subst (λ n. Later n a b) (ap (λ t. cond t 1 0) e) later

-- a call refused before it was a period has written nothing
unwritten : (X : Type 0) (found : List EndFault) (asked left : Call) (outcome : Outcome) → (X → ⊥)
    → FirstOr X found left asked outcome → left ≡ asked
unwritten X [] asked left outcome not h = absurd (not h)
unwritten X (fault ∷ more) asked left outcome not h = h.0

send_refused : (before after : Standing) (payload : List ℕ) (refusal : Refusal) → NoPeriod refusal → Sends before payload (Err refusal) after → Unchanged before after
send_refused before after payload refusal early s =
    let t = told_fault s.outcome refusal s.tells early in
    let asked = send s.characters s.symbol before.line in
    let left = send s.characters s.symbol after.line in
    let performs : Performs before.sender 0 asked left s.outcome → ⊥ = λ p. let d = p.3 in let r = t.1 in let z : ◌≡◌ {A = ℕ} 0 1 = cc in omega arith in
    let same = unwritten (Performs before.sender 0 asked left s.outcome) (faults new_lock asked) asked left s.outcome performs s.answers in
    let line : after.line ≡ before.line = cc in
    record { sender = stays _ _ s.outcome t.2 s.sender; receiver = s.receiver; lock = s.lock; line = line }

receive_refused : (before after : Standing) (refusal : Refusal) → NoPeriod refusal → Receives before (Err refusal) after → Unchanged before after
receive_refused before after refusal early r =
    let t = told_fault r.outcome refusal r.tells early in
    let p : is_period (Outcome.Refused t.0) ≡ false = subst (λ o. is_period o ≡ false) t.1 t.2 in
    let lock : lock_after before.lock r.outcome ≡ before.lock =
    ap (λ o. lock_after before.lock o) t.1 ∙ ap (λ b. cond b (next_lock before.lock FrameOutcome.BeyondRepair) before.lock) p in
    record { sender = r.sender; receiver = stays _ _ r.outcome t.2 r.receiver; lock = r.lock ∙ lock; line = r.line }

pub changes_nothing : (before after : Standing) (number : ℕ) (head : Head) (payload : List ℕ) (answer : Answer) → Carries before number head payload answer after → RefusedChangesNothing before answer after
changes_nothing before after number head payload answer (bad_head misfit same) refusal e early = same
changes_nothing before after number head payload answer (sends fits s) refusal e early = send_refused before after payload refusal early (subst (λ a. Sends before payload a after) e s)
changes_nothing before after number head payload answer (hits fits (in_range is struck)) refusal e early = cc
changes_nothing before after number head payload answer (hits fits (out_of_range none same)) refusal e early = same
changes_nothing before after number head payload answer (receives fits r) refusal e early = receive_refused before after refusal early (subst (λ a. Receives before a after) e r)
changes_nothing before after number head payload answer (rests fits (both lock rested)) refusal e early = cc
changes_nothing before after number head payload answer (rests fits (neither lost same)) refusal e early = same
