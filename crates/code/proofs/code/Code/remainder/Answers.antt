use Rattle.std.proofs.Common.{◌≡◌, ℕ, ◌+◌, ◌<◌, List, length, get_or, drop, sym, ap, ◌∙◌, subst, arith, rules, length-drop}
use Rattle.std.proofs.lemmas.List.{get_or-drop}
use Rattle.arithmetic.specs.Laws.{power}
use Rattle.code.specs.Polynomials.{value, added}
use Rattle.code.proofs.Filled.{made_with}
use Rattle.code.proofs.Values.{added_small}
use Rattle.code.proofs.Registers.{added_by, remainder_value}
use Rattle.code.proofs.code.Code.remainder.Goals as goal

pub returns : goal.returns
returns g c =
    let f = g.A.Arithmetic.field c.args.self.now.arithmetic in
    let laws = g.met.A.Arithmetic.lawful c.args.self.now.arithmetic in
    let word = c.args.word.now in
    let register = c.divide-register.result in
    let left = c.from_fn.result in
    let made = made_with _ (λ i y. y ≡ f.plus (get_or register i 0) (get_or word (406 + i) 0)) _ left 0 0 44 c.from_fn.ensures.items.each (λ j y q r. search rules) in
    let lr : length register ≡ 44 = omega arith in
    let long : length register ≡ length (drop 406 word) = simp length-drop (omega arith) in
    let same : left ≡ added f register (drop 406 word) =
    added_by laws register (drop 406 word) left long (c.from_fn.ensures.items.long ∙ sym lr)
    (λ i h. made i (omega arith) (omega arith) ∙ ap (f.plus (get_or register i 0)) (sym (get_or-drop 406 word i 0))) in
    let small : List ℕ → Type 0 = λ q. (k : ℕ) → get_or q k 0 < 512 in
    record {
      small = subst small (sym same) (added_small laws register (drop 406 word));
      right = λ j h. ap (value f (power f f.alpha j)) same ∙ remainder_value laws 44 406 word register long c.divide-register.ensures.worth j h;
    }
