-- What the faults of lines, frames and ends print. Assumes nothing.
use Rattle.std.specs.Prelude.{ℕ, List, ◌++◌, codes, decimal}
use Rattle.blocks.specs.Texts.{block_fault_text}
use Rattle.code.specs.Faults.{code_fault_text}
use Rattle.codec.specs.declared.faults.LineFault.{LineFault}
use Rattle.codec.specs.declared.faults.FrameFault.{FrameFault}
use Rattle.codec.specs.declared.faults.EndFault.{EndFault}

abbrev pub line_fault_text : LineFault → List ℕ
line_fault_text (LineFault.NoLineSymbol place) = codes "no line symbol at place " ++ decimal place

-- the block's number before the block's fault
abbrev pub frame_fault_text : FrameFault → List ℕ
frame_fault_text found = codes "block " ++ decimal found.block ++ codes ": " ++ block_fault_text found.fault

-- a fault of a layer below as that layer prints it
abbrev pub end_fault_text : EndFault → List ℕ
end_fault_text EndFault.NoLock = codes "no lock"
end_fault_text (EndFault.Length buffer) = codes "buffer " ++ decimal buffer ++ codes " has the wrong length"
end_fault_text EndFault.ManagementSymbol = codes "the management symbol is above 511"
end_fault_text (EndFault.Block fault) = block_fault_text fault
end_fault_text (EndFault.Line fault) = line_fault_text fault
end_fault_text (EndFault.Code fault) = code_fault_text fault
