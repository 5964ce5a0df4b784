use Rattle.std.proofs.Common.{◌≡◌, ◌+◌, ◌≤◌, length}
use Rattle.code.specs.Words.{distance}
use Rattle.code.proofs.mending.changes.Given as goal

abbrev pub invariant-loop-x : goal.invariant-loop-x
invariant-loop-x l =
    let u = l.x-iterator.a.rest.now in
    let v = l.x-iterator.b.rest.now in
    (length u ≡ length v) × (l.count + length u ≤ 450) × (l.count + distance u v ≡ distance l.initial.u.symbols l.initial.v.symbols)
