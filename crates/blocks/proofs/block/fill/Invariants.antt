use Rattle.std.proofs.Common.{◌≡◌, length, map}
use Rattle.blocks.specs.Numbers.{number_of}
use Rattle.blocks.proofs.WriteLoop.{Front, Filled}
use Rattle.blocks.proofs.block.fill.Given as goal

abbrev pub invariant-loop-k : goal.invariant-loop-k
invariant-loop-k l = record {
  numbered : l.k-iterator.iter.count ≡ 0;
  front : Front l.k-iterator.iter.iter.rest.now l.characters;
  filled : Filled (map number_of l.characters) l.block l.pointer (length l.k-iterator.iter.iter.rest.now);
}
