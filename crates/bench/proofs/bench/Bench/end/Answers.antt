use Rattle.std.proofs.Common.{◌≡◌, ◌<◌, [], ◌++◌, length, string_bytes, sym, ap, ◌∙◌, subst, append-nil, rules}
use Rattle.std.proofs.lemmas.List.{nil_from_length}
use Rattle.std.proofs.lemmas.Result.{IfOk-weaker}
use Rattle.bench.specs.Files.{Ends, Ended, between}
use Rattle.bench.specs.Printing.{line_of}
use Rattle.bench.proofs.Ending.{ended_inside, ended_misfit}
use Rattle.bench.proofs.bench.Bench.end.Goals as goal
use Rattle.bench.proofs.bench.Bench.end.Goals.{in-Some+in_ok-print_line, in_default}

pub returns-then-is_empty : goal.returns-then-is_empty
returns-then-is_empty g c =
    let none : length c.args.rest.now ≡ 0 = search rules in
    record {
      cut_record_or_none = record {
        text = [];
        added = sym (append-nil _);
        ends = subst (λ rest. Ends c.args.self.now.number rest []) (sym (nil_from_length c.args.rest.now none)) between;
      };
    }

pub returns : goal.returns
returns g c =
    let n = c.args.self.now.number in
    let before = string_bytes c.args.out.now in
    let middle = string_bytes c.match-misfit.out in
    let after = string_bytes c.print_line-2.new.out in
    let some : 0 < length c.args.rest.now = search rules in
    record {
      cut_record_or_none =
          IfOk-weaker c.print_line-2.result (λ _. after ≡ middle ++ line_of c.cut.result) (λ _. Ended n c.args.rest.now before after)
          (λ _ two. elim c.match-misfit.branch [
            | in-Some+in_ok-print_line w ↦ ended_misfit n c.args.rest.now before middle after w.in-Some.printed c.cut.result w.in-Some.ensures c.cut.ensures (ap string_bytes w.out-is ∙ w.in_ok-print_line.ensures.adds_the_line) two
            | in_default w ↦ ended_inside n c.args.rest.now before after c.cut.result some w.in_default.ensures c.cut.ensures (two ∙ ap (λ out. string_bytes out ++ line_of c.cut.result) w.out-is)
          ])
          c.print_line-2.ensures.adds_the_line;
    }
