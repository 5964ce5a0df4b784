-- What is written of an answer. Assumes nothing.
use Rattle.std.proofs.Common.{◌≡◌, ℕ, [], ◌∷◌, ◌++◌, decimal, ap, ◌∙◌, append-nil, lit<}
use Rattle.std.proofs.lemmas.Fmt.{decimal_digit}
use Rattle.bench.specs.Printing.{text_of, spaced, told}
use Rattle.bench.specs.declared.printed.Printed.{Printed}

zero_digit : decimal 0 ≡ 48 ∷ []
zero_digit = decimal_digit 0 (lit< tt)

pub text_done : (p : Printed) → told p.answer ≡ 0 ∷ [] → text_of p ≡ decimal p.kind ++ 32 ∷ 48 ∷ []
text_done p e =
    ap (λ ns. decimal p.kind ++ spaced ns) e ∙ ap (λ l. decimal p.kind ++ 32 ∷ (l ++ [])) zero_digit

pub text_accepted : (p : Printed) (symbol places invalid : ℕ) → told p.answer ≡ 0 ∷ symbol ∷ places ∷ invalid ∷ []
    → text_of p ≡ decimal p.kind ++ 32 ∷ 48 ∷ 32 ∷ (decimal symbol ++ 32 ∷ (decimal places ++ 32 ∷ decimal invalid))
text_accepted p symbol places invalid e =
    ap (λ ns. decimal p.kind ++ spaced ns) e
    ∙ ap (λ l. decimal p.kind ++ 32 ∷ (l ++ spaced (symbol ∷ places ∷ invalid ∷ []))) zero_digit
    ∙ ap (λ l. decimal p.kind ++ 32 ∷ 48 ∷ 32 ∷ (decimal symbol ++ 32 ∷ (decimal places ++ 32 ∷ l))) (append-nil (decimal invalid))
