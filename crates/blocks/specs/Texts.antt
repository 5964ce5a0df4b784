-- What characters, controls and faults print. Assumes nothing.
use Rattle.std.specs.Prelude.{ℕ, List, ◌++◌, codes, decimal}
use Rattle.blocks.specs.declared.character.Control.{Control}
use Rattle.blocks.specs.declared.character.Control.TheVariants.{NotReady, Error, Ready, LowPower}
use Rattle.blocks.specs.declared.character.Character.{Character}
use Rattle.blocks.specs.declared.faults.BlockFault.{BlockFault}
use Rattle.blocks.specs.declared.faults.CycleFault.{CycleFault}

abbrev pub control_text : Control → List ℕ
control_text NotReady = codes "idle, not ready"
control_text Error = codes "error"
control_text Ready = codes "idle, ready"
control_text LowPower = codes "low power"

-- an octet as a decimal number, a control by its name
abbrev pub character_text : Character → List ℕ
character_text (Character.Data octet) = decimal octet
character_text (Character.Control control) = control_text control

abbrev pub block_fault_text : BlockFault → List ℕ
block_fault_text BlockFault.InputLength = codes "the buffer to read has the wrong length"
block_fault_text BlockFault.OutputLength = codes "the buffer to write has the wrong length"
block_fault_text (BlockFault.NoCharacter place) = codes "no character at place " ++ decimal place
block_fault_text (BlockFault.InvalidPointer octet) = codes "invalid pointer at octet " ++ decimal octet
block_fault_text (BlockFault.ReservedCode octet) = codes "reserved code at octet " ++ decimal octet

abbrev pub cycle_fault_text : CycleFault → List ℕ
cycle_fault_text CycleFault.InputLength = codes "the list of cycles has the wrong length"
cycle_fault_text CycleFault.OutputLength = codes "the character buffer has the wrong length"
cycle_fault_text (CycleFault.ReservedRequest place) = codes "reserved request at place " ++ decimal place
