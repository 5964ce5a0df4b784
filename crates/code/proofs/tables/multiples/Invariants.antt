use Rattle.std.proofs.Common.{◌≡◌, ℕ, ◌<◌, [], length, get_or}
use Rattle.code.specs.Polynomials.{value, eval}
use Rattle.code.proofs.tables.multiples.Given as goal

abbrev pub invariant-loop-k : goal.invariant-loop-k
invariant-loop-k g l =
    let f = g.A.Arithmetic.field l.a in
    (length l.row-items ≡ 512) × ((i : ℕ) → i < l.k → (length (get_or l.row-items i []) ≡ 44) × ((x : ℕ) → value f x (get_or l.row-items i []) ≡ f.times i (eval f l.g x)))
