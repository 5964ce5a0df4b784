-- The octets of a printed line. Assumes nothing.
use Rattle.std.specs.Prelude.{ℕ, List, [], ◌∷◌, ◌++◌, Some, None, Ok, Err, Option, Result, decimal}
use Rattle.refusal.specs.declared.kinds.Refusal.{Refusal}
use Rattle.codec.specs.declared.report.Report.{Report}
use Rattle.bench.specs.declared.printed.Printed.{Printed}

-- decimal numbers, each after a space
abbrev pub spaced : List ℕ → List ℕ
spaced [] = []
spaced (n ∷ ns) = 32 ∷ (decimal n ++ spaced ns)

-- what became of a record: the report of an accepted frame, nothing to tell, or why it was refused
abbrev pub Answer : Type 0
Answer = Result (Option Report) Refusal

-- 0, and of an accepted frame its symbol, the number of its places and its invalid blocks, or the number of the refusal
abbrev pub told : Answer → List ℕ
told (Ok None) = 0 ∷ []
told (Ok (Some report)) = 0 ∷ report.symbol ∷ report.places ∷ report.invalid ∷ []
told (Err refusal) = refusal.number ∷ []

-- the kind, then what is told, decimal, with one space between two numbers
abbrev pub text_of : Printed → List ℕ
text_of printed = decimal printed.kind ++ spaced (told printed.answer)

-- a line ends with a line feed
abbrev pub line_of : Printed → List ℕ
line_of printed = text_of printed ++ 10 ∷ []
