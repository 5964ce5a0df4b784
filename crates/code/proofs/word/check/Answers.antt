use Rattle.std.proofs.Common.{◌≡◌, ℕ, List, length, ap, ◌∙◌, subst, arith}
use native.Mathlib.Decide.{dec_lt}
use Rattle.std.proofs.lemmas.List.{get_or_past}
use Rattle.std.proofs.lemmas.Result.{err_from_is_err_and}
use Rattle.code.specs.Faults.{FirstTooLarge, Misshapen, code_refusal}
use Rattle.code.specs.Faults.Misshapen.{not_full, too_large}
use Rattle.code.specs.Words.{Word}
use Rattle.code.specs.declared.fault.CodeFault.{CodeFault}
use Rattle.refusal.proofs.Arrays.{array_found, array_refused}
use Rattle.code.proofs.word.check.Goals as goal

pub returns-in_err-symbols : goal.returns-in_err-symbols
returns-in_err-symbols c =
    let p = err_from_is_err_and c.from_residual.result c.from_residual.ensures.1 in
    let e = c.in_err-symbols.ensures in
    let h = array_refused (λ y. y.now) c.args.list.now c.as_array.ensures.cases e.ok_part e.value in
    let Told : CodeFault → Type 0 = λ fault. Misshapen c.args.list.now (code_refusal fault) in
    rw (p.1, p.2) (subst Told h.1 (not_full h.0))

pub returns-in-Some : goal.returns-in-Some
returns-in-Some c =
    let h = array_found (λ y. y.now) c.as_array.ensures.cases c.in_ok-symbols.ensures.ok_part in
    let First : List ℕ → Type 0 = λ w. FirstTooLarge w c.in-Some.place in
    too_large _ (subst First h.1 c.in-Some.ensures)

pub returns-in-None : goal.returns-in-None
returns-in-None c =
    let w = c.in_ok-symbols.symbols.now in
    let h = array_found (λ y. y.now) c.as_array.ensures.cases c.in_ok-symbols.ensures.ok_part in
    let full : length w ≡ 450 = ap length h.1 ∙ h.0 in
    let word : Word w = record {
      full = full;
      small = λ i. elim (dec_lt i 450) [
        | yes l ↦ c.in-None.ensures i l
        | no l ↦ (let none = get_or_past w i 0 (omega arith) in omega arith)
      ];
    } in
    (h.1, subst Word h.1 word)
