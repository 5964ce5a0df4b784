-- What was sent comes back. Assumes nothing.
use Rattle.std.proofs.Common.{◌≡◌, ℕ, ◌<◌, ◌≤◌, ◌⊎◌, List, length, take, ℤ, None, sym, ap, ◌∙◌, subst, inl, inr}
use Rattle.blocks.specs.Characters.{Characters}
use Rattle.code.specs.Words.{Codeword}
use Rattle.codec.specs.Calls.{Call, send, receive, LineSent, Told, Accepts, GivesUp, Performs}
use Rattle.codec.specs.Ends.{End}
use Rattle.codec.specs.Frames.{message_of}
use Rattle.codec.specs.Histories.{Event, line_in, lock_from}
use Rattle.codec.specs.Law.{EveryCallAnswers, SentComesBack}
use Rattle.codec.specs.Lines.{Near, line_frame, differing, apart, padded}
use Rattle.codec.specs.declared.lock.Lock.{Lock}
use Rattle.codec.specs.declared.report.Report.{Report}
use Rattle.codec.specs.declared.request.Outcome.{Outcome}
use Rattle.codec.specs.declared.request.Outcome.TheVariants.{Accepted}
use Rattle.codec.proofs.Answered.{received, sent, sound}
use Rattle.codec.proofs.Faulted.{Sendable, sendable}

abbrev pub clean : ℕ → ℕ → Report
clean symbol places = record { symbol = symbol; places = places; invalid = 0; fault = None }

-- what is told of a word that carries characters and a symbol, is just these
abbrev pub CarriesBack : Type 0
CarriesBack = (characters handed places word : List ℕ) (symbol : ℕ) (report : Report) → length characters ≡ 450 → Characters characters → symbol < 512
    → take 406 word ≡ message_of characters symbol → Told word handed places report → (handed ≡ characters) × (report ≡ clean symbol (length places))

module _ (carries_back : CarriesBack) (sender receiver : End) (lock : Lock) (events : List Event) (answers : EveryCallAnswers sender receiver lock events)
    (unique : (period : ℕ) (line : List ℤ) (word other : List ℕ) → Near receiver period line word → Near receiver period line other → other ≡ word)
    (frames : (period : ℕ) (word : List ℕ) → line_frame sender period word ≡ line_frame receiver period word)
    (codes : (word : List ℕ) → Codeword sender.field word → Codeword receiver.field word) where
  back : (period : ℕ) (characters : List ℕ) (symbol : ℕ) (word : List ℕ) (buffer line : List ℤ) (left : Call) (outcome : Outcome)
      → Sendable characters symbol buffer → take 406 word ≡ message_of characters symbol → Near receiver period line word
      → Accepts receiver period line left outcome ⊎ GivesUp receiver period line left outcome
      → (left ≡ receive line characters (padded (differing line (line_frame receiver period word))))
      × (outcome ≡ Accepted (clean symbol (apart line (line_frame receiver period word))))
  back period characters symbol word buffer line left outcome s m n (inr g) = absurd (g.none_near word n)
  back period characters symbol word buffer line left outcome s m n (inl a) =
      let w : a.word ≡ word = unique period line word a.word n a.near in
      let t : Told word a.characters (differing line (line_frame receiver period word)) a.report =
      subst (λ v. Told v a.characters (differing line (line_frame receiver period v)) a.report) w a.told in
      let c = carries_back characters a.characters (differing line (line_frame receiver period word)) word symbol a.report s.full s.valid s.nine_bits m t in (
        subst (λ cs. left ≡ receive line cs (padded (differing line (line_frame receiver period word)))) c.0
            (subst (λ v. left ≡ receive line a.characters (padded (differing line (line_frame receiver period v)))) w a.leaves),
        a.reports ∙ ap Accepted c.1,
      )

  pub sent_comes_back : SentComesBack events
  sent_comes_back period characters symbol on_line line event s r near =
      let did : Performs sender period (send characters symbol s.buffer) s.event.left s.event.outcome = sent sender receiver lock events answers period characters symbol on_line s in
      let made : LineSent sender period characters symbol did.0 = did.1 in
      let given : Sendable characters symbol s.buffer = sendable (lock_from lock s.ahead) characters symbol s.buffer (sound sender receiver lock events answers period characters symbol on_line s) in
      let frame : on_line ≡ line_frame receiver period made.word = sym s.wrote ∙ ap line_in did.2 ∙ made.written ∙ frames period made.word in
      let n : Near receiver period line made.word = record { codeword = codes made.word made.codeword; within = subst (λ f. apart line f ≤ 22) frame near } in
      subst (λ f. (event.left ≡ receive line characters (padded (differing line f))) × (event.outcome ≡ Accepted (clean symbol (apart line f)))) (sym frame)
      (back period characters symbol made.word s.buffer line event.left event.outcome given made.carries n (received sender receiver lock events answers period line event r))
