-- What an accepted frame tells. Assumes nothing.
use Rattle.std.proofs.Common.{◌≡◌, ℕ, ◌⊎◌, List, ℤ, sym, refl, ap, ◌∙◌, subst, inl, inr}
use Rattle.codec.specs.Calls.{Call, Accepts, GivesUp}
use Rattle.codec.specs.Ends.{End}
use Rattle.codec.specs.Histories.{Event}
use Rattle.codec.specs.Law.{EveryCallAnswers, AcceptedIsNearExactlyOne, TellsOfCodeword}
use Rattle.codec.specs.Lines.{Near}
use Rattle.codec.specs.declared.lock.Lock.{Lock}
use Rattle.codec.specs.declared.report.Report.{Report}
use Rattle.codec.specs.declared.request.Outcome.{Outcome}
use Rattle.codec.specs.declared.request.Outcome.TheVariants.{Unanswered, Done, Accepted, Refused}
use Rattle.codec.proofs.Answered.{received, not_refused}

abbrev report_in : Report → Outcome → Report
report_in other Unanswered = other
report_in other Done = other
report_in other (Accepted report) = report
report_in other (Refused fault) = other

module _ (sender receiver : End) (lock : Lock) (events : List Event) (answers : EveryCallAnswers sender receiver lock events)
    (unique : (period : ℕ) (line : List ℤ) (word other : List ℕ) → Near receiver period line word → Near receiver period line other → other ≡ word) where
  tells : (period : ℕ) (line : List ℤ) (left : Call) (outcome : Outcome) (report : Report) → outcome ≡ Accepted report
      → Accepts receiver period line left outcome ⊎ GivesUp receiver period line left outcome
      → (word : List ℕ) × TellsOfCodeword receiver period line word left report
  tells period line left outcome report e (inl a) =
      let r : a.report ≡ report = ap (report_in report) (sym a.reports ∙ e) in (
        a.word,
        subst (λ q. TellsOfCodeword receiver period line a.word left q) r (record {
          near = a.near;
          only = λ other n. unique period line a.word other a.near n;
          symbol = a.told.symbol;
          count = a.told.count;
          characters = a.characters;
          leaves = a.leaves;
          full = a.told.frame.full;
          blocks = a.told.frame.blocks;
          no_further = a.told.frame.no_further;
          first_fault = a.told.frame.first;
        }),
      )
  tells period line left outcome report e (inr g) = not_refused outcome (Accepted report) _ e refl g.reports

  pub accepted_is_near_exactly_one : AcceptedIsNearExactlyOne receiver events
  accepted_is_near_exactly_one period line event report r e =
      tells period line event.left event.outcome report e (received sender receiver lock events answers period line event r)
