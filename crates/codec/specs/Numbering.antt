-- One block of a frame read, with the block's number in its fault. Assumes nothing.
use Rattle.std.specs.Prelude.{◌≡◌, ℕ, List, replicate, Ok, Err, Result}
use Rattle.blocks.specs.Blocks.{EncodesNone, EncodesOnly, InvalidField}
use Rattle.blocks.specs.Faults.{block_refusal}
use Rattle.codec.specs.declared.faults.FrameFault.{FrameFault}

-- ten errors and the fault of an invalid block
pub record TenErrors (k : ℕ) (block ten : List ℕ) (found : FrameFault) : Type 0 where
  pub none : EncodesNone block
  pub errors : ten ≡ replicate 10 257
  pub number : found.block ≡ k
  pub field : InvalidField block (block_refusal found.fault)

-- what is handed out of block k
abbrev pub TenTold : {X : Type 0} → ℕ → List ℕ → List ℕ → Result X FrameFault → Type 0
TenTold k block ten (Ok x) = EncodesOnly block ten
TenTold k block ten (Err found) = TenErrors k block ten found
