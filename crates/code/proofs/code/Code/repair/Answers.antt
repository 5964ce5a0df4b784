use Rattle.std.proofs.Common.{ℕ, List, sym, refl, subst, arith}
use Rattle.std.proofs.lemmas.Result.{err_from_is_err_and}
use Rattle.code.specs.Words.{Word}
use Rattle.code.specs.Outcomes.{Repaired, Astray}
use Rattle.code.specs.Outcomes.Irreparable.{no_word, beyond}
use Rattle.code.proofs.Completion.{zero_codeword}
use Rattle.code.proofs.Repairs.{repaired_same}
use Rattle.code.proofs.code.Code.repair.Goals as goal

pub returns-in_err-received : goal.returns-in_err-received
returns-in_err-received g c =
    let p = err_from_is_err_and c.from_residual.result c.from_residual.ensures.1 in
    record { repairs = rw (p.1, p.2) (record { why = no_word c.in_err-received.ensures; same = refl }) }

pub returns-then-is_zero : goal.returns-then-is_zero
returns-then-is_zero g c =
    let laws = g.met.A.Arithmetic.lawful c.args.self.now.arithmetic in
    let w = c.in_ok-received.received.now in
    let same = c.in_ok-received.ensures.0 in
    let word = subst Word (sym same) c.in_ok-received.ensures.1 in
    let Good : List ℕ → Type 0 = λ u. Repaired (g.A.Arithmetic.field c.args.self.now.arithmetic) u u 0 in
    record { repairs = subst Good same (repaired_same laws w (zero_codeword laws w c.remainder-left.result word (omega arith) c.remainder-left.ensures.small c.remainder-left.ensures.right (c.is_zero.ensures.zero c.if-is_zero.true))) }

pub returns-in_err-changed : goal.returns-in_err-changed
returns-in_err-changed g c =
    let p = err_from_is_err_and c.from_residual-in_err-changed.result c.from_residual-in_err-changed.ensures.1 in
    let f = g.A.Arithmetic.field c.args.self.now.arithmetic in
    record { repairs = rw (p.1, p.2) (record { why = beyond (subst (Astray f) c.in_ok-received.ensures.0 c.in_err-changed.ensures.0); same = refl }) }
