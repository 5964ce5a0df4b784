-- What is handed out of an accepted frame, and what is told of it. Assumes nothing.
use Rattle.std.specs.Prelude.{◌≡◌, ℕ, ◌/◌, ◌%◌, ◌^◌, ◌<◌, ◌↔◌, List, length, replicate, Some, None, Option}
use Rattle.blocks.specs.Blocks.{EncodesNone, EncodesOnly, InvalidField}
use Rattle.blocks.specs.Faults.{block_refusal}
use Rattle.codec.specs.Frames.{block_at, ten_at}
use Rattle.codec.specs.declared.faults.FrameFault.{FrameFault}

-- a set of blocks has weight 2^k for block k
abbrev pub Contains : ℕ → ℕ → Type 0
Contains set k = set / 2 ^ k % 2 ≡ 1

-- what is told of block k, for which these ten characters were handed out
pub record BlockTold (invalid k : ℕ) (block ten : List ℕ) : Type 0 where
  pub invalid_when_none : Contains invalid k ↔ EncodesNone block
  pub errors : Contains invalid k → ten ≡ replicate 10 257
  pub otherwise : (Contains invalid k → ⊥) → EncodesOnly block ten

-- the fault of the first block of a word that encodes nothing, if there is one
abbrev pub FirstFault : List ℕ → Option FrameFault → Type 0
FirstFault word None = (k : ℕ) → k < 45 → EncodesNone (block_at word k) → ⊥
FirstFault word (Some found) = (found.block < 45) × InvalidField (block_at word found.block) (block_refusal found.fault) × ((k : ℕ) → k < found.block → EncodesNone (block_at word k) → ⊥)

-- the characters of a word's blocks, with the set of its invalid blocks and the first block fault
pub record FrameTold (word characters : List ℕ) (invalid : ℕ) (fault : Option FrameFault) : Type 0 where
  pub full : length characters ≡ 450
  pub blocks : (k : ℕ) → k < 45 → BlockTold invalid k (block_at word k) (ten_at characters k)
  pub no_further : invalid < 2 ^ 45
  pub first : FirstFault word fault
