-- How a call comes to answer by its rule. Assumes nothing.
use Rattle.std.proofs.Common.{◌≡◌, ℕ, false, cond, List, [], ◌∷◌, Some, sym, refl, ap, subst, arith, Result, Ok, Err}
use Rattle.std.specs.List.{AllByRecursion}
use Rattle.std.specs.Result.{IsErrAnd}
use Rattle.codec.specs.Calls.{Call, faults, first_of, is_period, periods_of, lock_after, Performs, Answers, done, accepted}
use Rattle.codec.specs.Ends.{End, Later}
use Rattle.codec.specs.declared.faults.EndFault.{EndFault}
use Rattle.codec.specs.declared.lock.Lock.{Lock}
use Rattle.codec.specs.declared.report.Report.{Report}
use Rattle.codec.specs.declared.request.Outcome.{Outcome}
use Rattle.codec.specs.declared.request.Outcome.TheVariants.{Refused}
use Rattle.codec.proofs.Answered.{FirstOr, early}

pub performed : (end : End) (period : ℕ) (lock : Lock) (asked left : Call) (outcome : Outcome) → faults lock asked ≡ [] → Performs end period asked left outcome → Answers end period lock asked left outcome
performed end period lock asked left outcome e h = subst (λ found. FirstOr (Performs end period asked left outcome) found left asked outcome) (sym e) h

turned_away : (X : Type 0) (found : List EndFault) (asked : Call) (fault : EndFault) → first_of found ≡ Some fault → FirstOr X found asked asked (Refused fault)
turned_away X [] asked fault e = let z : ◌≡◌ {A = ℕ} 0 1 = cc in absurd (omega arith)
turned_away X (f ∷ more) asked fault e = let same : fault ≡ f = cc in (refl, ap Refused same)

first_early : (found : List EndFault) (fault : EndFault) → AllByRecursion (λ f. is_period (Refused f) ≡ false) found → first_of found ≡ Some fault → is_period (Refused fault) ≡ false
first_early [] fault a e = let z : ◌≡◌ {A = ℕ} 0 1 = cc in absurd (omega arith)
first_early (f ∷ more) fault a e = let same : f ≡ fault = cc in subst (λ x. is_period (Refused x) ≡ false) same a.0

-- a call refused before it was a period
no_period : (lock : Lock) (asked : Call) (fault : EndFault) → first_of (faults lock asked) ≡ Some fault → is_period (Refused fault) ≡ false
no_period lock asked fault e = first_early (faults lock asked) fault (early lock asked) e

-- a call is refused for its first fault, which `?` hands on: it answers by its rule, and neither its end nor the lock moves
module _ (end : End) (lock : Lock) (asked : Call) (fault : EndFault) (first : first_of (faults lock asked) ≡ Some fault) where
  by_its_rule : Answers end 0 lock asked asked (Refused fault)
  by_its_rule = turned_away (Performs end 0 asked asked (Refused fault)) (faults lock asked) asked fault first

  stands_still : Later (periods_of (Refused fault)) end end
  stands_still =
      let none : periods_of (Refused fault) ≡ 0 = ap (λ b. cond b 1 0) (no_period lock asked fault first) in
      record { arithmetic = refl; masks = λ k. ap end.mask (omega arith); code = refl }

  pub refused : (result : Result Unit EndFault) → IsErrAnd result (λ y. y ≡ fault)
      → record { answers_by_its_rule : Answers end 0 lock asked asked (done result); stands_later : Later (periods_of (done result)) end end }
  refused (Ok x) h = absurd h
  refused (Err y) h = rw h (record { answers_by_its_rule = by_its_rule; stands_later = stands_still })

  pub receive_refused : (result : Result Report EndFault) → IsErrAnd result (λ y. y ≡ fault)
      → record { answers_by_its_rule : Answers end 0 lock asked asked (accepted result); stands_later : Later (periods_of (accepted result)) end end; lock_moves : lock ≡ lock_after lock (accepted result) }
  receive_refused (Ok x) h = absurd h
  receive_refused (Err y) h = rw h (record { answers_by_its_rule = by_its_rule; stands_later = stands_still; lock_moves = rw (no_period lock asked fault first) })
