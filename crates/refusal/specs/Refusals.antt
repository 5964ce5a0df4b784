-- Refusals as values. Assumes nothing.
use Rattle.std.specs.Prelude.{ℕ}
use Rattle.refusal.specs.declared.kinds.Layer.{Layer}
use Rattle.refusal.specs.declared.kinds.Refusal.{Refusal}

abbrev pub refusal : ℕ → Layer → ℕ → Refusal
refusal number layer place = record { number = number; layer = layer; place = place }
