use Rattle.std.proofs.Common.{◌≡◌, ◌≤◌, length, filter}
use Rattle.codec.specs.Demapping.{is_changed, upward}
use Rattle.codec.proofs.received.Received.list_places.Given as goal

abbrev pub invariant-loop-k : goal.invariant-loop-k
invariant-loop-k l = (l.places.items ≡ filter (is_changed l.self.symbols l.word.symbols) (upward 0 l.k)) × (length l.places.items ≤ 22)
