use Rattle.std.proofs.Common.{◌≡◌, ℕ, ◌<◌, length, get_or}
use Rattle.blocks.specs.Characters as numbers
use Rattle.blocks.specs.Numbers.{number_of}
use Rattle.blocks.specs.declared.character.Character.{Character}
use Rattle.blocks.proofs.character.parse.Given as goal

abbrev pub invariant-loop-place : goal.invariant-loop-place
invariant-loop-place g l = record {
  as_many : length l.characters ≡ length l.numbers;
  so_far : (j : ℕ) → j < l.place-counter → number_of (get_or l.characters j (Character.Data 0)) ≡ get_or l.numbers j 0;
  allowed : (j : ℕ) → j < l.place-counter → numbers.Character (get_or l.numbers j 0);
}
