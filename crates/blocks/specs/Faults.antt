-- The number, layer and place of each fault. Assumes nothing.
use Rattle.refusal.specs.Refusals.{refusal}
use Rattle.refusal.specs.declared.kinds.Layer.{Layer}
use Rattle.refusal.specs.declared.kinds.Refusal.{Refusal}
use Rattle.blocks.specs.declared.faults.BlockFault.{BlockFault}
use Rattle.blocks.specs.declared.faults.CycleFault.{CycleFault}

abbrev pub block_refusal : BlockFault → Refusal
block_refusal BlockFault.InputLength = refusal 3 Layer.Block 0
block_refusal BlockFault.OutputLength = refusal 3 Layer.Block 1
block_refusal (BlockFault.NoCharacter place) = refusal 5 Layer.Block place
block_refusal (BlockFault.InvalidPointer octet) = refusal 8 Layer.Block octet
block_refusal (BlockFault.ReservedCode octet) = refusal 9 Layer.Block octet

abbrev pub cycle_refusal : CycleFault → Refusal
cycle_refusal CycleFault.InputLength = refusal 3 Layer.Cycle 0
cycle_refusal CycleFault.OutputLength = refusal 3 Layer.Cycle 1
cycle_refusal (CycleFault.ReservedRequest place) = refusal 10 Layer.Cycle place
