use Rattle.std.proofs.Common.{◌≡◌, ℕ, suc, ◌+◌, ◌<◌, ◌∷◌, [], length, get_or, sym, ap, ◌∙◌, subst, add-one, arith, length-append, length-set}
use Rattle.std.proofs.lemmas.List.{length-take-le}
use Rattle.arithmetic.specs.Laws.{power}
use Rattle.code.specs.Polynomials.{eval_monic}
use Rattle.code.specs.Locating.{poly, whole, Terms}
use Rattle.code.proofs.Filled.{filled_more}
use Rattle.code.proofs.Places.{total_value, next_term}
use Rattle.code.proofs.code.Code.values.Goals as goal

pub loop-value-preserved : goal.loop-value-preserved
loop-value-preserved g c =
    let f = g.A.Arithmetic.field c.args.self.now.arithmetic in
    let laws = g.met.A.Arithmetic.lawful c.args.self.now.arithmetic in
    let p = c.args.p.now in
    let i = c.loop-value.value-index in
    let x = power f f.alpha i in
    let terms = c.loop-value.terms in
    let new = c.times_powers.new.numbers in
    let lt : length terms ≡ p.degree + 1 = c.loop-value.invariant.1 in
    let long : length (poly p) ≡ p.degree = length-take-le p.degree p.low (omega arith) in
    let size : length (whole p) ≡ p.degree + 1 = omega (arith, length-append (poly p) (1 ∷ [])) in
    let here : c.total_of.result ≡ eval_monic f (poly p) x = c.total_of.ensures ∙ total_value laws (poly p) terms x (lt ∙ sym size) c.loop-value.invariant.2 in
    let next : Terms f (whole p) (power f f.alpha (suc i)) new = λ k h.
    let inside : k < length terms = omega arith in
    let old = c.loop-value.invariant.2 k h in
    let e : get_or new k 0 ≡ f.times (power f f.alpha k) (get_or terms k 0) = c.times_powers.ensures k inside in
    let below = laws.times_below (power f f.alpha k) (get_or terms k 0) in
    (omega arith, e ∙ ap (f.times (power f f.alpha k)) old.1 ∙ next_term laws (get_or (whole p) k 0) k i) in
    let T : ℕ → Type 0 = λ m. Terms f (whole p) (power f f.alpha m) new in
    let filled = filled_more (λ j y. y ≡ eval_monic f (poly p) (power f f.alpha j)) c.loop-value.value-items 0 c.total_of.result i (omega (arith, c.loop-value-test.true)) c.loop-value.invariant.3 here in (
      simp length-set c.loop-value.invariant.0,
      omega (arith, c.times_powers.auto.numbers),
      subst T (sym (add-one i)) next,
      filled,
    )
