use Rattle.std.proofs.Common.{ℕ, List, take, subst, arith}
use Rattle.code.specs.Prepared.{Divided}
use Rattle.code.proofs.Completion.{completed}
use Rattle.code.proofs.code.Code.complete.Goals as goal

pub returns : goal.returns
returns g c =
    let a = c.args.self.now.arithmetic in
    let w = c.args.word.now in
    let register = c.divide-register.result in
    let word = c.in_ok-check.ensures.1 in
    let Worth : List ℕ → Type 0 = λ u. Divided (g.A.Arithmetic.field a) 44 (take 406 u) register in
    let worth = subst Worth c.in_ok-check.ensures.0 c.divide-register.ensures.worth in
    record { completes = completed (g.met.A.Arithmetic.lawful a) w register _ _ (omega arith) word (omega arith) c.divide-register.ensures.small worth c.copy_from_slice.ensures.after }
