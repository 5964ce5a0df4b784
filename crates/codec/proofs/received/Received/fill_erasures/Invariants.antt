use Rattle.std.proofs.Common.{◌≡◌, length, take}
use Rattle.codec.specs.Demapping.{filled}
use Rattle.codec.proofs.received.Received.fill_erasures.Given as goal

abbrev pub invariant-loop-k : goal.invariant-loop-k
invariant-loop-k l = (length l.symbols ≡ 450) × (take l.k l.symbols ≡ take l.k (filled l.self.symbols))
