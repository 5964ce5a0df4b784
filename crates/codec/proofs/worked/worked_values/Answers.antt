use Rattle.arithmetic.proofs.Examples.{polynomials_worked}
use Rattle.blocks.proofs.WorkedBlocks.{worked_blocks}
use Rattle.lines.specs.Moves.{worked_masks}
use Rattle.codec.proofs.worked.worked_values.Goals as goal

pub returns : goal.returns
returns c = record { worked_values_hold = record { blocks = worked_blocks; arithmetic = polynomials_worked; masks = worked_masks } }
