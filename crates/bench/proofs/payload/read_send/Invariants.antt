use Rattle.std.proofs.Common.{◌≡◌, ◌*◌, take}
use Rattle.std.specs.List.{flat_map}
use Rattle.bench.specs.Records.{two_octets}
use Rattle.bench.proofs.payload.read_send.Given as goal

-- the numbers read so far are those of the characters
abbrev pub invariant-loop-k : goal.invariant-loop-k
invariant-loop-k l = take (2 * l.k) l.numbers ≡ flat_map two_octets (take l.k l.characters)
