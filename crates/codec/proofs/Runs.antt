-- A run, call by call. Assumes nothing.
use Rattle.std.proofs.Common.{◌≡◌, ℕ, ◌+◌, ◌<◌, ◌≤◌, Bool, true, false, cond, not, ◌&&◌, ◌⊎◌, List, [], ◌∷◌, ◌++◌, length, get_or, take, drop, set, count_by, sym, refl, ap, ◌∙◌, subst, ap₂, inl, inr, arith, length-set, take_all, drop-set-lt}
use Rattle.std.proofs.lemmas.List.{take_more, take_more_set, drop_more, length-take-le}
use Rattle.std.proofs.lemmas.Grind.{drop_more_same}
use Rattle.std.proofs.lemmas.List.Sums.{fold_push}
use Rattle.codec.specs.Calls.{Call, Answers, content, is_period, lock_after}
use Rattle.codec.specs.Ends.{Later}
use Rattle.codec.specs.Histories.{Event, Occurs, history, at_sender, sender_periods, receiver_periods, lock_from}
use Rattle.codec.specs.Law.{EveryCallAnswers}
use Rattle.codec.specs.Turning.{Turned, Standing, sender_period, receiver_period}
use Rattle.codec.specs.declared.lock.Lock.{Lock}
use Rattle.codec.specs.declared.request.Turn.{Turn}
use Rattle.codec.proofs.LaterEnds.{no_later, answers_here, later_on}

abbrev event_of : Turn → Turn → Event
event_of before after = record { asked = content before.request; left = content after.request; outcome = after.outcome }

-- one event more at the end

count_push : {X : Type 0} (p : X → Bool) (xs : List X) (x : X) → count_by p (xs ++ (x ∷ [])) ≡ count_by p xs + cond (p x) 1 0
count_push p xs x = fold_push (λ a y. a + cond (p y) 1 0) 0 xs x

pub sender_push : (events : List Event) (event : Event) → sender_periods (events ++ (event ∷ [])) ≡ sender_periods events + sender_period event.asked event.outcome
unfolding sender_periods
sender_push events event = count_push (λ e. at_sender e.asked && is_period e.outcome) events event

pub receiver_push : (events : List Event) (event : Event) → receiver_periods (events ++ (event ∷ [])) ≡ receiver_periods events + receiver_period event.asked event.outcome
unfolding receiver_periods
receiver_push events event = count_push (λ e. not (at_sender e.asked) && is_period e.outcome) events event

pub lock_push : (lock : Lock) (events : List Event) (event : Event) → lock_from lock (events ++ (event ∷ [])) ≡ lock_after (lock_from lock events) event.outcome
unfolding lock_from
lock_push lock [] event = refl
lock_push lock (e ∷ events) event = lock_push (lock_after lock e.outcome) events event

history_push : (before after : List Turn) (b a : Turn) → length before ≡ length after → history (before ++ (b ∷ [])) (after ++ (a ∷ [])) ≡ history before after ++ (event_of b a ∷ [])
history_push [] [] b a h = refl
history_push [] (y ∷ after) b a h = absurd (omega arith)
history_push (x ∷ before) [] b a h = absurd (omega arith)
history_push (x ∷ before) (y ∷ after) b a h = ap (λ l. event_of x y ∷ l) (history_push before after b a (omega arith))

-- an event of a longer history is one of the shorter, or the last
abbrev Found : List Event → Event → List Event → Event → Type 0
Found events last ahead event = Occurs events ahead event ⊎ ((ahead ≡ events) × (event ≡ last))

found : (events : List Event) (last : Event) (ahead : List Event) (event : Event) → Occurs (events ++ (last ∷ [])) ahead event → Found events last ahead event
found [] last [] event (later, e) = inr (refl, cc)
found [] last (a ∷ []) event (later, e) = let z : ◌≡◌ {A = ℕ} 0 1 = cc in absurd (omega arith)
found [] last (a ∷ (b ∷ ahead)) event (later, e) = let z : ◌≡◌ {A = ℕ} 0 1 = cc in absurd (omega arith)
found (x ∷ events) last [] event (later, e) = let s : x ≡ event = cc in inl (events, ap (λ y. y ∷ events) s)
found (x ∷ events) last (a ∷ ahead) event (later, e) = go (found events last ahead event (later, cc))
  where
    go : Occurs events ahead event ⊎ ((ahead ≡ events) × (event ≡ last)) → Occurs (x ∷ events) (a ∷ ahead) event ⊎ ((a ∷ ahead ≡ x ∷ events) × (event ≡ last))
    go (inl (more, o)) = let s : x ≡ a = cc in inl (more, ap₂ ◌∷◌ s o)
    go (inr (s, l)) = let t : a ≡ x = cc in inr (ap₂ ◌∷◌ t s, l)

-- how far a run has come: the events so far, and where both ends stand
pub record Come (start : Standing) (events : List Event) (here : Standing) : Type 0 where
  pub answers : EveryCallAnswers start.sender start.receiver start.lock events
  pub sender : Later (sender_periods events) start.sender here.sender
  pub receiver : Later (receiver_periods events) start.receiver here.receiver
  pub lock : here.lock ≡ lock_from start.lock events

none_occurs : (ahead : List Event) (event : Event) → Occurs [] ahead event → ⊥
none_occurs [] event (later, e) = let z : ◌≡◌ {A = ℕ} 0 1 = cc in omega arith
none_occurs (a ∷ ahead) event (later, e) = let z : ◌≡◌ {A = ℕ} 0 1 = cc in omega arith

pub come_none : (start : Standing) → Come start [] start
unfolding sender_periods receiver_periods lock_from
come_none start = record { answers = λ ahead event o. absurd (none_occurs ahead event o); sender = no_later start.sender; receiver = no_later start.receiver; lock = refl }

-- what a call answers where the run has come to, it answers by the rule of the start
module _ (start here : Standing) (events : List Event) (c : Come start events here) (asked left : Call) where
  answered : (outcome : _) → cond (at_sender asked) (Answers here.sender 0 here.lock asked left outcome) (Answers here.receiver 0 here.lock asked left outcome)
      → cond (at_sender asked) (Answers start.sender (sender_periods events) (lock_from start.lock events) asked left outcome) (Answers start.receiver (receiver_periods events) (lock_from start.lock events) asked left outcome)
  answered outcome h = go (at_sender asked) (subst (λ l. cond (at_sender asked) (Answers here.sender 0 l asked left outcome) (Answers here.receiver 0 l asked left outcome)) c.lock h)
    where
      go : (b : Bool) → cond b (Answers here.sender 0 (lock_from start.lock events) asked left outcome) (Answers here.receiver 0 (lock_from start.lock events) asked left outcome)
          → cond b (Answers start.sender (sender_periods events) (lock_from start.lock events) asked left outcome) (Answers start.receiver (receiver_periods events) (lock_from start.lock events) asked left outcome)
      go true a = answers_here (sender_periods events) start.sender here.sender c.sender (lock_from start.lock events) asked left outcome a
      go false a = answers_here (receiver_periods events) start.receiver here.receiver c.receiver (lock_from start.lock events) asked left outcome a

abbrev Rule : Standing → List Event → Event → Type 0
Rule start ahead e = cond (at_sender e.asked)
    (Answers start.sender (sender_periods ahead) (lock_from start.lock ahead) e.asked e.left e.outcome)
    (Answers start.receiver (receiver_periods ahead) (lock_from start.lock ahead) e.asked e.left e.outcome)

pub come_more : (start here there : Standing) (events : List Event) (event : Event) → Come start events here → Turned here event.asked event.left event.outcome there → Come start (events ++ (event ∷ [])) there
come_more start here there events event c t = record {
  answers = λ ahead e o. all ahead e (found events event ahead e o);
  sender = subst (λ n. Later n start.sender there.sender) (sym (sender_push events event)) (later_on (sender_periods events) (sender_period event.asked event.outcome) start.sender here.sender there.sender c.sender t.sender_later);
  receiver = subst (λ n. Later n start.receiver there.receiver) (sym (receiver_push events event)) (later_on (receiver_periods events) (receiver_period event.asked event.outcome) start.receiver here.receiver there.receiver c.receiver t.receiver_later);
  lock = t.lock_later ∙ ap (λ l. lock_after l event.outcome) c.lock ∙ sym (lock_push start.lock events event);
}
  where
    all : (ahead : List Event) (e : Event) → Found events event ahead e → Rule start ahead e
    all ahead e (inl o) = c.answers ahead e o
    all ahead e (inr (s, l)) = subst (λ x. Rule start x e) (sym s) (subst (Rule start events) (sym l) (answered start here events c event.asked event.left event.outcome t.answers))

-- the run over a list of turns: those below i are done, the others are as they were
pub record SoFar (start : Standing) (xs : List Turn) (i : ℕ) (ys : List Turn) (here : Standing) : Type 0 where
  pub long : length ys ≡ length xs
  pub rest : drop i ys ≡ drop i xs
  pub come : Come start (history (take i xs) (take i ys)) here

pub so_far_none : {start : Standing} {xs : List Turn} → SoFar start xs 0 xs start
so_far_none {start} {xs} = record { long = refl; rest = refl; come = come_none start }

pub so_far_more : {start here there : Standing} (xs ys : List Turn) (i : ℕ) (b a : Turn) → i < length xs → SoFar start xs i ys here → b ≡ get_or ys i b
    → Turned here (content b.request) (content a.request) a.outcome there → SoFar start xs (i + 1) (set ys i a) there
so_far_more {start} {here} {there} xs ys i b a h s e t =
    let n : i < length ys = omega (arith, s.long) in
    let was : b ≡ get_or xs i b = e ∙ head_of i ys xs b n h s.rest in
    let before : take (i + 1) xs ≡ take i xs ++ (b ∷ []) = take_more xs i b h ∙ ap (λ x. take i xs ++ (x ∷ [])) (sym was) in
    let after : take (i + 1) (set ys i a) ≡ take i ys ++ (a ∷ []) = take_more_set ys i a n in
    let same : length (take i xs) ≡ length (take i ys) = length-take-le i xs (omega arith) ∙ sym (length-take-le i ys (omega arith)) in
    let events : history (take (i + 1) xs) (take (i + 1) (set ys i a)) ≡ history (take i xs) (take i ys) ++ (event_of b a ∷ []) =
    ap₂ history before after ∙ history_push (take i xs) (take i ys) b a same in
    record {
      long = length-set ys i a ∙ s.long;
      rest = drop-set-lt (i + 1) ys i a (omega arith) ∙ drop_more_same ys xs i s.rest;
      come = subst (λ l. Come start l there) (sym events) (come_more start here there (history (take i xs) (take i ys)) (event_of b a) s.come t);
    }
  where
    head_of : (i : ℕ) (ys xs : List Turn) (d : Turn) → i < length ys → i < length xs → drop i ys ≡ drop i xs → get_or ys i d ≡ get_or xs i d
    head_of i ys xs d n h r =
        let p = drop_more ys i d n in
        let q = drop_more xs i d h in
        cc

pub so_far_all : {start here : Standing} {xs ys : List Turn} {i : ℕ} → length xs ≤ i → SoFar start xs i ys here → Come start (history xs ys) here
so_far_all {start} {here} {xs} {ys} {i} h s = subst (λ l. Come start l here) (ap₂ history (take_all i xs h) (take_all i ys (omega (arith, s.long)))) s.come
