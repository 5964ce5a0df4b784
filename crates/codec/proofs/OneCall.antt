-- One call of a run, from what the end's own call ensures. Assumes nothing.
use Rattle.std.proofs.Common.{◌≡◌, ℕ, false, List, [], ◌∷◌, ℤ, sym, ap, ◌∙◌}
use Rattle.std.specs.List.{AllByRecursion}
use Rattle.codec.specs.Calls.{Call, send, sender_rest, receiver_rest, faults, is_period, periods_of, lock_after, Performs, Answers}
use Rattle.codec.specs.Ends.{End, Later}
use Rattle.codec.specs.Locks.{new_lock}
use Rattle.codec.specs.Turning.{Turned, standing}
use Rattle.codec.specs.declared.faults.EndFault.{EndFault}
use Rattle.codec.specs.declared.lock.Lock.{Lock}
use Rattle.codec.specs.declared.request.Outcome.{Outcome}
use Rattle.codec.specs.declared.request.Outcome.TheVariants.{Done, Refused}
use Rattle.codec.proofs.Answered.{FirstOr, early}
use Rattle.codec.proofs.LaterEnds.{no_later}

untouched : (X : Type 0) (found : List EndFault) (asked left : Call) (outcome : Outcome) (lock : Lock) → AllByRecursion (λ f. is_period (Refused f) ≡ false) found → (X → outcome ≡ Done)
    → FirstOr X found left asked outcome → lock ≡ lock_after lock outcome
untouched X [] asked left outcome lock a d h = sym (ap (lock_after lock) (d h))
untouched X (fault ∷ more) asked left outcome lock a d h = sym (ap (lock_after lock) h.1 ∙ rw a.0)

-- a call that is no receive leaves the lock
still : (end : End) (held : Lock) (asked left : Call) (outcome : Outcome) (lock : Lock) → (Performs end 0 asked left outcome → outcome ≡ Done)
    → Answers end 0 held asked left outcome → lock ≡ lock_after lock outcome
still end held asked left outcome lock d a = untouched (Performs end 0 asked left outcome) (faults held asked) asked left outcome lock (early held asked) d a

module _ {S S' R : End} {lock : Lock} {outcome : Outcome} where
  pub sent : {characters : List ℕ} {symbol : ℕ} {line : List ℤ} {left : Call} → Answers S 0 new_lock (send characters symbol line) left outcome → Later (periods_of outcome) S S'
      → Turned (standing S R lock) (send characters symbol line) left outcome (standing S' R lock)
  unfolding faults
  sent {characters} {symbol} {line} {left} a l = record {
    answers = a;
    sender_later = l;
    receiver_later = no_later R;
    lock_later = still S new_lock (send characters symbol line) left outcome lock (λ p. p.3) a;
  }

  pub rested : {line : List ℤ} {left : Call} → Answers S 0 new_lock (sender_rest line) left outcome → Later (periods_of outcome) S S'
      → Turned (standing S R lock) (sender_rest line) left outcome (standing S' R lock)
  unfolding faults
  rested {line} {left} a l = record {
    answers = a;
    sender_later = l;
    receiver_later = no_later R;
    lock_later = still S new_lock (sender_rest line) left outcome lock (λ p. p.1) a;
  }

module _ {S R R' : End} {lock lock' : Lock} {outcome : Outcome} where
  pub receiver_rested : {left : Call} → Answers R 0 lock receiver_rest left outcome → Later (periods_of outcome) R R' → lock' ≡ lock
      → Turned (standing S R lock) receiver_rest left outcome (standing S R' lock')
  receiver_rested {left} a l m = record {
    answers = a;
    sender_later = no_later S;
    receiver_later = l;
    lock_later = m ∙ still R lock receiver_rest left outcome lock (λ p. p.1) a;
  }
