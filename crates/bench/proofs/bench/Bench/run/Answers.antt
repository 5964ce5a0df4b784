use Rattle.std.proofs.Common.{[], ◌++◌, string_bytes, sym, append-nil, zero-le}
use Rattle.bench.specs.Files.{none}
use Rattle.bench.specs.Printing.{line_of}
use Rattle.bench.proofs.Running.{added, one_more}
use Rattle.bench.proofs.bench.Bench.run.Goals as goal

pub loop-step-init : goal.loop-step-init
loop-step-init g c = ([], sym (append-nil _), zero-le, none)

pub loop-step-preserved : goal.loop-step-preserved
loop-step-preserved g c =
    let inv = c.loop-step.invariant in
    let m = one_more _ _ c.args.octets.now _ _ _ _ _ _ c.in-Some.step inv.2 inv.3 c.in-Some.ensures.first_record_or_none in (
      inv.0 ++ line_of c.in-Some.step.printed,
      added (string_bytes c.args.out.now) inv.0 _ (line_of c.in-Some.step.printed) _ inv.1 c.in_ok-print_line.ensures.adds_the_line,
      m.0,
      m.1,
    )
