-- What layers and refusals print. Assumes nothing.
use Rattle.std.specs.Prelude.{ℕ, List, ◌++◌, codes, decimal}
use Rattle.refusal.specs.declared.kinds.Layer.{Layer}
use Rattle.refusal.specs.declared.kinds.Refusal.{Refusal}

abbrev pub layer_text : Layer → List ℕ
layer_text Layer.Making = codes "making"
layer_text Layer.End = codes "end"
layer_text Layer.Block = codes "block"
layer_text Layer.Line = codes "line"
layer_text Layer.Code = codes "code"
layer_text Layer.Cycle = codes "cycle"
layer_text Layer.Bench = codes "bench"

abbrev pub refusal_text : Refusal → List ℕ
refusal_text r = codes "refused with " ++ decimal r.number ++ codes ", layer " ++ layer_text r.layer ++ codes ", place " ++ decimal r.place
