use Rattle.std.proofs.Common.{◌≡◌, ℕ, ◌<◌, length, get_or}
use Rattle.arithmetic.specs.Laws.{power}
use Rattle.code.specs.Locating.{poly}
use Rattle.code.proofs.roots.first_terms.Given as goal

abbrev pub invariant-loop-k : goal.invariant-loop-k
invariant-loop-k g l =
    let f = g.A.Arithmetic.field l.a in
    (length l.terms ≡ 23) × ((i : ℕ) → i < l.k → (get_or l.terms i 0 < 512) × (get_or l.terms i 0 ≡ f.times (get_or (poly l.p) i 0) (power f 1 i)))
