-- Values worked out by hand from the rules. Assumes nothing.
use Rattle.arithmetic.specs.Worked.{Worked}
use Rattle.arithmetic.specs.Polynomials.{polynomials}
use Rattle.blocks.specs.Worked.{WorkedBlocks}
use Rattle.lines.specs.Scramblers.{WorkedMasks}

pub record WorkedValues : Type 0 where
  pub blocks : WorkedBlocks
  pub arithmetic : Worked polynomials
  pub masks : WorkedMasks
