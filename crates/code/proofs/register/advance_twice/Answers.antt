use Rattle.std.proofs.Common.{◌≡◌, ℕ, ◌+◌, length, get_or, set, sym, ap, ◌∙◌, subst, arith, length-set}
use native.Mathlib.Decide.{ℕ_discrete}
use Rattle.std.proofs.lemmas.List.{get_or-set_same, get_or-set_other, get_or_past}
use Rattle.code.proofs.Registers.{twice_all}
use Rattle.code.proofs.register.advance_twice.Goals as goal

pub returns : goal.returns
returns g c =
    let f = g.A.Arithmetic.field c.args.a.now in
    let laws = g.met.A.Arithmetic.lawful c.args.a.now in
    let r = c.args.register.now in
    let p = c.args.first.now in
    let q = c.args.second.now in
    let w = c.loop-k.register in
    let v = c.sum-3.result in
    let z = c.sum-4.result in
    let lw : length w ≡ 44 = omega arith in
    let lr : length r ≡ 44 = omega arith in
    let lp : length p ≡ 44 = omega arith in
    let lq : length q ≡ 44 = omega arith in
    let lv : length (set w 42 v) ≡ 44 = length-set w 42 v ∙ lw in
    let P : ℕ → Type 0 = λ i. get_or (set (set w 42 v) 43 z) i 0 ≡ f.plus (f.plus (get_or r (i + 2) 0) (get_or p (i + 1) 0)) (get_or q i 0) in
    let last : P 43 =
    get_or-set_same (set w 42 v) 43 z 0 (omega arith) ∙ c.sum-4.ensures.value ∙ ap (λ y. f.plus y (get_or q 43 0)) (sym (laws.plus_self 0))
    ∙ ap (λ y. f.plus (f.plus y 0) (get_or q 43 0)) (sym (get_or_past r 45 0 (omega arith))) ∙ ap (λ y. f.plus (f.plus (get_or r 45 0) y) (get_or q 43 0)) (sym (get_or_past p 44 0 (omega arith))) in
    let before : P 42 =
    get_or-set_other (set w 42 v) 43 42 z 0 (omega arith) ∙ get_or-set_same w 42 v 0 (omega arith) ∙ c.sum-3.ensures.value
    ∙ ap (λ y. f.plus y (get_or q 42 0)) (c.sum-2.ensures.value ∙ ap (λ y. f.plus y (get_or p 43 0)) (sym (get_or_past r 44 0 (omega arith)))) in
    twice_all laws r p q (set (set w 42 v) 43 z) (lp ∙ sym lr) (lq ∙ sym lr) (length-set (set w 42 v) 43 z ∙ lv ∙ sym lr) (omega arith) (λ i h. elim (ℕ_discrete i 43) [
      | yes e ↦ subst P (sym e) last
      | no n ↦ elim (ℕ_discrete i 42) [
        | yes e ↦ subst P (sym e) before
        | no m ↦ get_or-set_other (set w 42 v) 43 i z 0 n ∙ get_or-set_other w 42 i v 0 m ∙ c.loop-k.invariant.0 i (omega arith)
      ]
    ])
