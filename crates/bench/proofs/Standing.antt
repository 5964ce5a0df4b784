-- Ends that stand where they stood. Assumes nothing.
use Rattle.std.proofs.Common.{◌≡◌, Option, Result, Err, refl, ap, ◌∙◌}
use Rattle.std.specs.Result.{IsErrAnd}
use Rattle.std.proofs.lemmas.Result.{err_from_is_err_and}
use Rattle.codec.specs.declared.report.Report.{Report}
use Rattle.codec.proofs.LaterEnds.{no_later}
use Rattle.bench.specs.Benches.{Standing, Unchanged, answered}
use Rattle.bench.specs.Refusals.{bench_refusal}
use Rattle.bench.specs.declared.faults.BenchFault.{BenchFault}

pub unchanged : (at : Standing) → Unchanged at at
unchanged at = record { sender = no_later at.sender; receiver = no_later at.receiver; lock = refl; line = refl }

-- what is told of a fault that `?` hands on, converted
pub told_as : (r : Result (Option Report) BenchFault) (x f : BenchFault) → IsErrAnd r (λ y. y ≡ x) → x ≡ f → answered r ≡ Err (bench_refusal f)
told_as r x f handed same =
    let p = err_from_is_err_and r handed in
    ap answered (p.1 ∙ ap Err (p.2 ∙ same))
