use Rattle.std.proofs.Common.{◌≡◌, ◌+◌, ◌-◌, length, get_or, take, drop, fold, sym, ap, ◌∙◌, arith, rules}
use Rattle.std.proofs.lemmas.List.{length-take-le, take_rest}
use Rattle.std.specs.List.{zip}
use Rattle.std.proofs.lemmas.Iterator.{YieldsList-from_slice, YieldsList-from_zip}
use Rattle.std.proofs.lemmas.Iterator.Consumers.{fold_from_yields_List}
use Rattle.code.specs.Locating.{poly}
use Rattle.code.proofs.Monic.{window_fold}
use Rattle.code.proofs.shapes.Syndromes.window.Goals as goal

pub returns : goal.returns
returns g c =
    let f = g.A.Arithmetic.field c.args.a.now in
    let p = poly c.args.p.now in
    let s = c.args.self.now.sums in
    let j = c.args.j in
    let long : length p ≡ c.args.p.now.degree = length-take-le c.args.p.now.degree c.args.p.now.low (omega arith) in
    let full : length s ≡ 44 = omega arith in
    let rest : take (44 - j) (drop j s) ≡ drop j s = ap (λ n. take (n - j) (drop j s)) (sym full) ∙ take_rest s j in
    fold_from_yields_List _ (λ sum t. f.plus sum (f.times t.0 t.1)) _ _ c.fold.ensures.ran
    (YieldsList-from_zip (YieldsList-from_slice p cc) (YieldsList-from_slice (drop j s) (c.zip.ensures.second.0 ∙ rest))) (λ sum x b q k. search rules)
    ∙ ap (λ n. fold (λ sum t. f.plus sum (f.times t.0 t.1)) (get_or s (j + n) 0) (zip p (drop j s))) (sym long)
    ∙ window_fold (g.met.A.Arithmetic.lawful c.args.a.now) p s j (omega arith) c.args.self.now.small
