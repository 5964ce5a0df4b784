use Rattle.std.proofs.Common.{◌≡◌, ℕ, ◌<◌, length, take}
use Rattle.arithmetic.specs.Laws.{power}
use Rattle.code.specs.Polynomials.{value, reads}
use Rattle.code.proofs.code.Code.syndromes.Given as goal

abbrev pub invariant-loop-c : goal.invariant-loop-c
invariant-loop-c g l =
    let f = g.A.Arithmetic.field l.self.arithmetic in
    (length l.sums ≡ 44) × ((j : ℕ) → j < 44 → reads l.sums j < 512) × ((j : ℕ) → j < 44 → reads l.sums j ≡ value f (power f f.alpha j) (take l.c-index l.p))
