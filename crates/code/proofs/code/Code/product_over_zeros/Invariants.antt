use Rattle.std.proofs.Common.{◌≡◌, length, filter}
use Rattle.code.specs.Words.{below}
use Rattle.code.specs.Locating.{zero_at}
use Rattle.code.proofs.Filled.{Beside}
use Rattle.code.proofs.Products.{RootsAt}
use Rattle.code.proofs.code.Code.product_over_zeros.Given as goal

abbrev pub invariant-loop-value : goal.invariant-loop-value
invariant-loop-value g l =
    let i = length l.yielded in
    Beside l.values l.self.tables.points l.value-iterator.a.rest.now l.value-iterator.b.rest.now i × (length l.low ≡ 22)
    × RootsAt (g.A.Arithmetic.field l.self.arithmetic) l.degree l.low (filter (zero_at l.values) (below i))
