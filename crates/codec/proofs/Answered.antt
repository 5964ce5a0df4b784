-- What follows of the law when every call is answered as its rule says. Assumes nothing.
use Rattle.std.proofs.Common.{◌≡◌, ℕ, ◌<◌, Bool, true, false, cond, not, T, eqb, ltb, ◌⊎◌, ◌↔◌, List, [], ◌∷◌, ◌++◌, length, ℤ, sym, refl, ap, ◌∙◌, subst, inl, inr, lt_irrefl}
use Rattle.std.specs.List.{flat_map, prefix_len, AllByRecursion}
use Rattle.codec.specs.Calls.{Call, send, sender_rest, receive, receiver_rest, fault_if, without_lock, wrong_length, wrong_number, checks, faults, beyond_repair, is_period, is_character, Performs, Answers, Accepts, GivesUp}
use Rattle.codec.specs.Ends.{End}
use Rattle.codec.specs.Histories.{Event, Occurs, Sends, Receives, at_sender, sender_periods, receiver_periods, lock_from}
use Rattle.codec.specs.Law.{EveryCallAnswers, BeyondRepairExactlyWhenNoneNear, Refuses, RefusedExactly}
use Rattle.codec.specs.Refusals.{end_refusal}
use Rattle.codec.specs.Lines.{NoneNear}
use Rattle.lines.specs.LineCodes.{is_line_symbol}
use Rattle.codec.specs.declared.lock.Lock.{Lock}
use Rattle.codec.specs.declared.lock.Lock.TheVariants.{Locked, Lost}
use Rattle.codec.specs.declared.request.Outcome.{Outcome}
use Rattle.codec.specs.declared.request.Outcome.TheVariants.{Unanswered, Done, Accepted, Refused}
use Rattle.codec.specs.declared.faults.EndFault.{EndFault}
use Rattle.blocks.specs.declared.faults.BlockFault.{BlockFault}
use Rattle.codec.specs.declared.faults.LineFault.{LineFault}

-- the first of the faults found, and then nothing is written, or what the call did
abbrev pub FirstOr : Type 0 → List EndFault → Call → Call → Outcome → Type 0
FirstOr X found left asked outcome =
    elim found as (λ f. Type 0) [ [] ↦ X | fault ∷ more ↦ (left ≡ asked) × (outcome ≡ Refused fault) ]

abbrev Early : EndFault → Type 0
Early fault = is_period (Refused fault) ≡ false

both : (xs ys : List EndFault) → AllByRecursion Early xs → AllByRecursion Early ys → AllByRecursion Early (xs ++ ys)
both [] ys p q = q
both (x ∷ xs) ys p q = (p.0, both xs ys p.1 q)

one : (b : Bool) (fault : EndFault) → Early fault → AllByRecursion Early (fault_if b fault)
one true fault p = (p, tt)
one false fault p = tt

unlocked : (lock : Lock) → AllByRecursion Early (without_lock lock)
unlocked (Locked bad) = tt
unlocked Lost = (refl, tt)

length_early : {X : Type 0} (buffer right : ℕ) (xs : List X) → AllByRecursion Early (wrong_length buffer right xs)
length_early buffer right xs = one (not (eqb (length xs) right)) (EndFault.Length buffer) refl

number_early : {X : Type 0} (kind : X → Bool) (fault : ℕ → EndFault) (xs : List X) → ((n : ℕ) → Early (fault n)) → AllByRecursion Early (wrong_number kind fault xs)
number_early kind fault xs p = one (ltb (prefix_len kind xs) (length xs)) (fault (prefix_len kind xs)) (p (prefix_len kind xs))

all_early : (found : List (List EndFault)) → AllByRecursion (λ f. AllByRecursion Early f) found → AllByRecursion Early (flat_map (λ f. f) found)
all_early [] p = tt
all_early (f ∷ found) p = both f (flat_map (λ g. g) found) p.0 (all_early found p.1)

checks_early : (lock : Lock) (call : Call) → AllByRecursion (λ f. AllByRecursion Early f) (checks lock call)
checks_early lock (send characters symbol line) = (
  length_early 0 450 characters,
  (
    length_early 1 2700 line,
    (
      one (ltb 511 symbol) EndFault.ManagementSymbol refl,
      (number_early is_character (λ place. EndFault.Block (BlockFault.NoCharacter place)) characters (λ n. refl), tt),
    ),
  ),
)
checks_early lock (sender_rest line) = (length_early 0 2700 line, tt)
checks_early lock (receive line characters places) = (
  unlocked lock,
  (
    length_early 0 2700 line,
    (
      length_early 1 450 characters,
      (
        length_early 2 22 places,
        (number_early is_line_symbol (λ place. EndFault.Line (LineFault.NoLineSymbol place)) line (λ n. refl), tt),
      ),
    ),
  ),
)
checks_early lock receiver_rest = (unlocked lock, tt)

pub early : (lock : Lock) (call : Call) → AllByRecursion Early (faults lock call)
unfolding faults
early lock call = all_early (checks lock call) (checks_early lock call)

-- a call that was a period had no early fault
performed : {X : Type 0} (found : List EndFault) (left asked : Call) (outcome : Outcome) → AllByRecursion Early found
    → FirstOr X found left asked outcome → T (is_period outcome) → X
performed [] left asked outcome a h t = h
performed (fault ∷ more) left asked outcome a h t = absurd (subst T (ap is_period h.1 ∙ a.0) t)

unfaulted : (found : List EndFault) (left asked : Call) (outcome : Outcome) (X : Type 0) → AllByRecursion Early found
    → FirstOr X found left asked outcome → T (is_period outcome) → found ≡ []
unfaulted [] left asked outcome X a h t = refl
unfaulted (fault ∷ more) left asked outcome X a h t = absurd (subst T (ap is_period h.1 ∙ a.0) t)

abbrev is_accepted : Outcome → Bool
is_accepted Unanswered = false
is_accepted Done = false
is_accepted (Accepted report) = true
is_accepted (Refused fault) = false

abbrev is_refused : Outcome → Bool
is_refused Unanswered = false
is_refused Done = false
is_refused (Accepted report) = false
is_refused (Refused fault) = true

abbrev fault_in : Outcome → EndFault
fault_in Unanswered = beyond_repair
fault_in Done = beyond_repair
fault_in (Accepted report) = beyond_repair
fault_in (Refused fault) = fault

pub not_refused : {X : Type 0} (outcome other : Outcome) (fault : EndFault) → outcome ≡ other → is_refused other ≡ false → outcome ≡ Refused fault → X
not_refused outcome other fault e f r = absurd (subst T (ap is_refused (sym r ∙ e) ∙ f) tt)

-- the early fault, or what the call did
stated : {X Y : Type 0} (found : List EndFault) (left asked : Call) (outcome : Outcome) (fault : EndFault)
    → (X → (outcome ≡ Refused fault) ↔ (Y × (fault ≡ beyond_repair)))
    → FirstOr X found left asked outcome
    → (outcome ≡ Refused fault) ↔ (elim found as (λ f. Type 0) [ [] ↦ Y × (fault ≡ beyond_repair) | f ∷ more ↦ fault ≡ f ])
stated [] left asked outcome fault p h = p h
stated (f ∷ more) left asked outcome fault p h = ((λ e. ap fault_in (sym e ∙ h.1)), (λ e. h.1 ∙ ap Refused (sym e)))

never : {X : Type 0} (outcome : Outcome) (fault : EndFault) → outcome ≡ Done → (outcome ≡ Refused fault) ↔ (⊥ × X)
never outcome fault e = (not_refused outcome Done fault e refl, λ p. absurd p.0)

-- a call is answered by the rule of the end that it asks
abbrev Answered : (sender receiver : End) (ks kr : ℕ) (lock : Lock) (left : Call) (outcome : Outcome) → Call → Type 0
Answered sender receiver ks kr lock left outcome c = cond (at_sender c) (Answers sender ks lock c left outcome) (Answers receiver kr lock c left outcome)

module _ (sender receiver : End) (ks kr : ℕ) (lock : Lock) (left : Call) (outcome : Outcome) (fault : EndFault) where
  gave_up : (line : List ℤ) → Accepts receiver kr line left outcome ⊎ GivesUp receiver kr line left outcome
      → (outcome ≡ Refused fault) ↔ (NoneNear receiver kr line × (fault ≡ beyond_repair))
  gave_up line (inl a) = (not_refused outcome _ fault a.reports refl, λ p. absurd (p.0 a.word a.near))
  gave_up line (inr g) = ((λ e. (g.none_near, ap fault_in (sym e ∙ g.reports))), (λ p. g.reports ∙ ap Refused (sym p.1)))

  pub refused_where : (c : Call) → Answered sender receiver ks kr lock left outcome c → (outcome ≡ Refused fault) ↔ Refuses receiver kr lock c fault
  refused_where (send characters symbol line) h =
      stated {Y = ⊥} (faults lock (send characters symbol line)) left (send characters symbol line) outcome fault (λ p. never outcome fault p.3) h
  refused_where (sender_rest line) h = stated {Y = ⊥} (faults lock (sender_rest line)) left (sender_rest line) outcome fault (λ p. never outcome fault p.1) h
  refused_where (receive line characters places) h =
      stated {Y = NoneNear receiver kr line} (faults lock (receive line characters places)) left (receive line characters places) outcome fault (gave_up line) h
  refused_where receiver_rest h = stated {Y = ⊥} (faults lock receiver_rest) left receiver_rest outcome fault (λ p. never outcome fault p.1) h

-- a refused call that was no period left everything as it was
kept : {X : Type 0} (found : List EndFault) (left asked : Call) (outcome : Outcome) → (X → left ≡ asked)
    → FirstOr X found left asked outcome → left ≡ asked
kept [] left asked outcome p h = p h
kept (f ∷ more) left asked outcome p h = h.0

module _ (sender receiver : End) (ks kr : ℕ) (lock : Lock) (left : Call) (outcome : Outcome) (fault : EndFault) (r : outcome ≡ Refused fault) (small : (end_refusal fault).number < 7) where
  pub kept_where : (c : Call) → Answered sender receiver ks kr lock left outcome c → left ≡ c
  kept_where (send characters symbol line) h =
      kept (faults lock (send characters symbol line)) left (send characters symbol line) outcome (λ p. not_refused outcome Done fault p.3 refl r) h
  kept_where (sender_rest line) h = kept (faults lock (sender_rest line)) left (sender_rest line) outcome (λ p. not_refused outcome Done fault p.1 refl r) h
  kept_where (receive line characters places) h = kept (faults lock (receive line characters places)) left (receive line characters places) outcome done h
    where
      done : Accepts receiver kr line left outcome ⊎ GivesUp receiver kr line left outcome → left ≡ receive line characters places
      done (inl a) = not_refused outcome _ fault a.reports refl r
      done (inr g) = let e : fault ≡ beyond_repair = ap fault_in (sym r ∙ g.reports) in absurd (lt_irrefl 7 (subst (λ f. (end_refusal f).number < 7) e small))
  kept_where receiver_rest h = kept (faults lock receiver_rest) left receiver_rest outcome (λ p. not_refused outcome Done fault p.1 refl r) h

module _ (sender receiver : End) (lock : Lock) (events : List Event) (answers : EveryCallAnswers sender receiver lock events) where
  -- of a call of which it is known what was asked
  answered : (ahead : List Event) (event : Event) (asked : Call) → Occurs events ahead event → event.asked ≡ asked
      → Answered sender receiver (sender_periods ahead) (receiver_periods ahead) (lock_from lock ahead) event.left event.outcome asked
  answered ahead event asked o e = subst (Answered sender receiver (sender_periods ahead) (receiver_periods ahead) (lock_from lock ahead) event.left event.outcome) e (answers ahead event o)

  pub received : (period : ℕ) (line : List ℤ) (event : Event) (r : Receives events period line event)
      → Performs receiver period (receive line r.characters r.places) event.left event.outcome
  received period line event r =
      let asked = receive line r.characters r.places in
      subst (λ k. Performs receiver k asked event.left event.outcome) r.counted
      (performed (faults (lock_from lock r.ahead) asked) event.left asked event.outcome (early (lock_from lock r.ahead) asked) (answered r.ahead event asked r.occurs r.asked) r.was_period)

  pub beyond_repair_exactly_when_none_near : BeyondRepairExactlyWhenNoneNear receiver events
  beyond_repair_exactly_when_none_near period line event r = (there, back)
    where
      there : event.outcome ≡ Refused beyond_repair → NoneNear receiver period line
      there e = elim (received period line event r) [
        | inl a ↦ absurd (subst T (ap is_accepted (sym a.reports ∙ e)) tt)
        | inr g ↦ g.none_near
      ]

      back : NoneNear receiver period line → event.outcome ≡ Refused beyond_repair
      back none = elim (received period line event r) [
        | inl a ↦ absurd (none a.word a.near)
        | inr g ↦ g.reports
      ]

  pub refused_exactly : RefusedExactly receiver lock events
  refused_exactly = record {
    where_stated = λ ahead event fault o. refused_where sender receiver (sender_periods ahead) (receiver_periods ahead) (lock_from lock ahead) event.left event.outcome fault event.asked (answers ahead event o);
    untouched = λ ahead event fault o r small. kept_where sender receiver (sender_periods ahead) (receiver_periods ahead) (lock_from lock ahead) event.left event.outcome fault r small event.asked (answers ahead event o);
  }

  -- what a send that was a period did
  module _ (period : ℕ) (characters : List ℕ) (symbol : ℕ) (line : List ℤ) (s : Sends events period characters symbol line) where
    abbrev asked_send : Call
    asked_send = send characters symbol s.buffer

    answered_send : Answers sender (sender_periods s.ahead) (lock_from lock s.ahead) asked_send s.event.left s.event.outcome
    answered_send = answered s.ahead s.event asked_send s.occurs s.asked

    pub sent : Performs sender period asked_send s.event.left s.event.outcome
    sent = subst (λ k. Performs sender k asked_send s.event.left s.event.outcome) s.counted
        (performed (faults (lock_from lock s.ahead) asked_send) s.event.left asked_send s.event.outcome (early (lock_from lock s.ahead) asked_send) answered_send s.was_period)

    pub sound : faults (lock_from lock s.ahead) asked_send ≡ []
    sound = unfaulted (faults (lock_from lock s.ahead) asked_send) s.event.left asked_send s.event.outcome
        (Performs sender (sender_periods s.ahead) asked_send s.event.left s.event.outcome) (early (lock_from lock s.ahead) asked_send) answered_send s.was_period
