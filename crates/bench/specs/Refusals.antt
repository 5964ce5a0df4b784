-- The number, layer and place of each fault of a bench record; a fault of an end keeps its refusal. Assumes nothing.
use Rattle.std.specs.Prelude.{List, ℕ, ◌++◌, codes, decimal}
use Rattle.refusal.specs.Refusals.{refusal}
use Rattle.refusal.specs.declared.kinds.Layer.{Layer}
use Rattle.refusal.specs.declared.kinds.Refusal.{Refusal}
use Rattle.codec.specs.Refusals.{end_refusal}
use Rattle.codec.specs.Texts.{end_fault_text}
use Rattle.bench.specs.declared.faults.BenchFault.{BenchFault}

abbrev pub bench_refusal : BenchFault → Refusal
bench_refusal (BenchFault.BadRecord number) = refusal 11 Layer.Bench number
bench_refusal (BenchFault.CutRecord number) = refusal 12 Layer.Bench number
bench_refusal (BenchFault.End fault) = end_refusal fault

-- what a fault prints; that of an end as the end prints it
abbrev pub bench_fault_text : BenchFault → List ℕ
bench_fault_text (BenchFault.BadRecord number) = codes "record " ++ decimal number ++ codes " is not as any kind has it"
bench_fault_text (BenchFault.CutRecord number) = codes "record " ++ decimal number ++ codes " is cut"
bench_fault_text (BenchFault.End fault) = end_fault_text fault
