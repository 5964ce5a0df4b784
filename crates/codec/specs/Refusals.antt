-- The number, layer and place of each fault of a line, of a frame and of an end. Assumes nothing.
use Rattle.refusal.specs.Refusals.{refusal}
use Rattle.refusal.specs.declared.kinds.Layer.{Layer}
use Rattle.refusal.specs.declared.kinds.Refusal.{Refusal}
use Rattle.blocks.specs.Faults.{block_refusal}
use Rattle.code.specs.Faults.{code_refusal}
use Rattle.codec.specs.declared.faults.LineFault.{LineFault}
use Rattle.codec.specs.declared.faults.FrameFault.{FrameFault}
use Rattle.codec.specs.declared.faults.EndFault.{EndFault}

abbrev pub line_refusal : LineFault → Refusal
line_refusal (LineFault.NoLineSymbol place) = refusal 6 Layer.Line place

-- that of the block; its place is the octet in that block
abbrev pub frame_refusal : FrameFault → Refusal
frame_refusal found = block_refusal found.fault

abbrev pub end_refusal : EndFault → Refusal
end_refusal EndFault.NoLock = refusal 2 Layer.End 0
end_refusal (EndFault.Length buffer) = refusal 3 Layer.End buffer
end_refusal EndFault.ManagementSymbol = refusal 4 Layer.End 0
end_refusal (EndFault.Block fault) = block_refusal fault
end_refusal (EndFault.Line fault) = line_refusal fault
end_refusal (EndFault.Code fault) = code_refusal fault
