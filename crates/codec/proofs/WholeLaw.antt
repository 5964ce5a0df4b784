-- The whole law over a run. Assumes nothing.
use Rattle.std.proofs.Common.{◌≡◌, ℕ, List, ℤ, Option, ap, ◌∙◌}
use Rattle.code.specs.Words.{Codeword}
use Rattle.code.proofs.Agreement.{codewords_agree}
use Rattle.codec.specs.Ends.{End, LawfulEnd, Agree}
use Rattle.codec.specs.Histories.{Event}
use Rattle.codec.specs.Law.{SentComesBack, BeyondRepairExactlyWhenNoneNear, AcceptedIsNearExactlyOne, RefusedExactly}
use Rattle.codec.specs.Lines.{Near, line_frame}
use Rattle.codec.specs.Turning.{Standing}
use Rattle.codec.proofs.Answered as answered
use Rattle.codec.proofs.AcceptedTells.{accepted_is_near_exactly_one}
use Rattle.codec.proofs.SentComesBack.{CarriesBack, sent_comes_back}
use Rattle.codec.specs.declared.report.Report.{Report}
use Rattle.codec.specs.declared.faults.FrameFault.{FrameFault}
use Rattle.codec.proofs.Carried.{carried, told_clean}
use Rattle.codec.proofs.LineFrames.{near_unique, frames_agree}
use Rattle.codec.proofs.Runs.{Come}

unique : (end : End) → LawfulEnd end → (period : ℕ) (line : List ℤ) (word other : List ℕ) → Near end period line word → Near end period line other → other ≡ word
unique end l period line word other n m = near_unique end l.field l.pairs l.masks period line word other n m

same_report : (report : Report) {symbol places invalid : ℕ} {fault : Option FrameFault} → report.symbol ≡ symbol → report.places ≡ places → report.invalid ≡ invalid → report.fault ≡ fault
    → report ≡ record { symbol = symbol; places = places; invalid = invalid; fault = fault }
same_report report {symbol} {places} {invalid} {fault} s p i f =
    ap (λ x. record { symbol = x; places = report.places; invalid = report.invalid; fault = report.fault }) s
    ∙ ap (λ x. record { symbol = symbol; places = x; invalid = report.invalid; fault = report.fault }) p
    ∙ ap (λ x. record { symbol = symbol; places = places; invalid = x; fault = report.fault }) i
    ∙ ap (λ x. record { symbol = symbol; places = places; invalid = invalid; fault = x }) f

carries_back : CarriesBack
carries_back characters handed places word symbol report full valid small carries told =
    let c = carried characters symbol word full valid small carries in
    let t = told_clean characters handed word symbol report.invalid report.fault c told.frame in
    (t.0, same_report report (told.symbol ∙ c.symbol) told.count t.1 t.2)

frames : (a b : End) → Agree a b → (period : ℕ) (word : List ℕ) → line_frame a period word ≡ line_frame b period word
frames a b agree period word = frames_agree agree period word

codes : (a b : End) → Agree a b → (word : List ℕ) → Codeword a.field word → Codeword b.field word
codes a b agree word h = codewords_agree a.field b.field agree.arithmetics word h

pub record Whole (start : Standing) (events : List Event) : Type 0 where
  pub refused_exactly : RefusedExactly start.receiver start.lock events
  pub sent_comes_back : Agree start.sender start.receiver → SentComesBack events
  pub beyond_repair_exactly_when_none_near : BeyondRepairExactlyWhenNoneNear start.receiver events
  pub accepted_is_near_exactly_one : AcceptedIsNearExactlyOne start.receiver events

pub whole : {start here : Standing} {events : List Event} → LawfulEnd start.receiver → Come start events here → Whole start events
whole {start} {here} {events} l c =
    let S = start.sender in
    let R = start.receiver in
    let lock = start.lock in
    record {
      refused_exactly = answered.refused_exactly S R lock events c.answers;
      sent_comes_back = λ agree. sent_comes_back carries_back S R lock events c.answers (unique R l) (frames S R agree) (codes S R agree);
      beyond_repair_exactly_when_none_near = answered.beyond_repair_exactly_when_none_near S R lock events c.answers;
      accepted_is_near_exactly_one = accepted_is_near_exactly_one S R lock events c.answers (unique R l);
    }
