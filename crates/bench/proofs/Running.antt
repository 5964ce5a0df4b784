-- Records one after another. Assumes nothing.
use Rattle.std.proofs.Common.{◌≡◌, ℕ, ◌+◌, ◌-◌, ◌≤◌, List, ◌++◌, length, take, drop, sym, ap, ◌∙◌, subst, append_assoc, le_refl, arith, length-drop, take_all, take-add}
use Rattle.bench.specs.Benches.{Standing}
use Rattle.bench.specs.Files.{Steps, Runs, more}
use Rattle.bench.specs.Printing.{line_of}
use Rattle.bench.specs.declared.bench.Step.{Step}

-- the part of octets from a place on
from_place : (octets : List ℕ) (n : ℕ) → take (length octets - n) (drop n octets) ≡ drop n octets
from_place octets n =
    let h : length (drop n octets) ≤ length octets - n = simp length-drop (le_refl _) in
    take_all (length octets - n) (drop n octets) h

-- a line more, after a text that was added
pub added : (before text middle line after : List ℕ) → middle ≡ before ++ text → after ≡ middle ++ line → after ≡ before ++ (text ++ line)
added before text middle line after one two = two ∙ ap (λ l. l ++ line) one ∙ append_assoc before text line

-- one record more
pub one_more : (before : Standing) (number : ℕ) (octets text : List ℕ) (taken k : ℕ) (at after : Standing) (next : ℕ) (step : Step)
    → taken ≤ length octets → Runs before number (take taken octets) text at k → Steps at k (take (length octets - taken) (drop taken octets)) step after next
    → (taken + step.taken ≤ length octets) × Runs before number (take (taken + step.taken) octets) (text ++ line_of step.printed) after next
one_more before number octets text taken k at after next step h runs found =
    let s = subst (λ part. Steps at k part step after next) (from_place octets taken) found in
    let inside : step.taken ≤ length octets - taken = simp length-drop at s.inside in
    (omega arith, subst (λ part. Runs before number part (text ++ line_of step.printed) after next) (sym (take-add taken step.taken octets)) (more runs s.is_record s.carries s.kind s.counted))
