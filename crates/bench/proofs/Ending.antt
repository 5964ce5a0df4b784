-- What is added where a file ends. Assumes nothing.
use Rattle.std.proofs.Common.{◌≡◌, ℕ, ◌<◌, List, ◌++◌, length, ap, ◌∙◌}
use Rattle.bench.specs.Files.{Ended, Misfit, NoMisfit, cut, inside, inside_misfit}
use Rattle.bench.specs.Printing.{line_of}
use Rattle.bench.proofs.Running.{added}
use Rattle.bench.specs.declared.printed.Printed.{Printed}

pub ended_inside : (number : ℕ) (rest before after : List ℕ) (said : Printed) → 0 < length rest → NoMisfit rest → said ≡ cut number → after ≡ before ++ line_of said → Ended number rest before after
ended_inside number rest before after said some fits is one =
    record { text = line_of (cut number); added = one ∙ ap (λ p. before ++ line_of p) is; ends = inside some fits }

pub ended_misfit : (number : ℕ) (rest before middle after : List ℕ) (first said : Printed) → Misfit number rest first → said ≡ cut number
    → middle ≡ before ++ line_of first → after ≡ middle ++ line_of said → Ended number rest before after
ended_misfit number rest before middle after first said misfits is one two =
    record {
      text = line_of first ++ line_of (cut number);
      added = added before (line_of first) middle (line_of (cut number)) after one (two ∙ ap (λ p. middle ++ line_of p) is);
      ends = inside_misfit misfits;
    }
