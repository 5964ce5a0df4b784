-- The number, layer and place of each fault of making. Assumes nothing.
use Rattle.refusal.specs.Refusals.{refusal}
use Rattle.refusal.specs.declared.kinds.Layer.{Layer}
use Rattle.refusal.specs.declared.kinds.Refusal.{Refusal}
use Rattle.lines.specs.declared.making.MakingFault.{MakingFault}

abbrev pub making_refusal : MakingFault → Refusal
making_refusal MakingFault.Seed = refusal 1 Layer.Making 0
