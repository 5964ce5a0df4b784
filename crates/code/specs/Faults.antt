-- What a fault is as a refusal, and which words are refused for their shape. Assumes nothing.
use Rattle.std.specs.Prelude.{◌≡◌, ℕ, ◌<◌, ◌≤◌, ◌≢◌, List, ◌++◌, length, slice_index, codes, decimal}
use Rattle.arithmetic.specs.Laws.{elements}
use Rattle.refusal.specs.Refusals.{refusal}
use Rattle.refusal.specs.declared.kinds.Layer.TheVariants.{Code}
use Rattle.refusal.specs.declared.kinds.Refusal.{Refusal}
use Rattle.code.specs.Words.{word_length}
use Rattle.code.specs.declared.fault.CodeFault.{CodeFault}
use Rattle.code.specs.declared.fault.CodeFault.TheVariants.{Length, SymbolTooLarge, BeyondRepair}

-- the refusal that a caller is told
abbrev pub code_refusal : CodeFault → Refusal
code_refusal Length = refusal 3 Code 0
code_refusal (SymbolTooLarge place) = refusal 6 Code place
code_refusal BeyondRepair = refusal 7 Code 0

-- the first symbol that is no element stands at a place
pub record FirstTooLarge (w : List ℕ) (place : ℕ) : Type 0 where
  pub full : length w ≡ word_length
  pub within : place < word_length
  pub above : elements ≤ slice_index w place
  pub before : (k : ℕ) → k < place → slice_index w k < elements

-- a list of symbols is refused since it is no word
pub data Misshapen (w : List ℕ) : Refusal → Type 0 where
  not_full : length w ≢ word_length → Misshapen w (refusal 3 Code 0)
  too_large : (place : ℕ) → FirstTooLarge w place → Misshapen w (refusal 6 Code place)

abbrev pub beyond_repair_text : List ℕ
beyond_repair_text = codes "no codeword within reach"

-- what a fault prints
abbrev pub code_fault_text : CodeFault → List ℕ
code_fault_text CodeFault.Length = codes "a word of the wrong length"
code_fault_text (CodeFault.SymbolTooLarge place) = codes "a symbol above 511 at place " ++ decimal place
code_fault_text CodeFault.BeyondRepair = beyond_repair_text
