use Rattle.std.proofs.Common.{◌≡◌, ℕ, ◌+◌, ◌<◌, [], ◌∷◌, length, get_or, sym, ap, ◌∙◌, arith, length-append, length-set}
use Rattle.std.proofs.lemmas.List.{get_or_append_left, get_or_at, length-take-le}
use Rattle.arithmetic.specs.Laws.{power}
use Rattle.code.specs.Locating.{poly, whole}
use Rattle.code.proofs.Filled.{filled_more}
use Rattle.code.proofs.Places.{first_term}
use Rattle.code.proofs.roots.first_terms.Goals as goal

pub loop-k-preserved : goal.loop-k-preserved
loop-k-preserved g c =
    let f = g.A.Arithmetic.field c.args.a.now in
    let laws = g.met.A.Arithmetic.lawful c.args.a.now in
    let p = poly c.args.p.now in
    let k = c.loop-k.k in
    let t = c.loop-k.terms in
    let room : k < length t = omega (arith, length-take-le c.args.p.now.degree c.args.p.now.low) in
    let here = c.product.ensures.value ∙ first_term laws (get_or p k 0) k in
    let next = filled_more (λ i y. (y < 512) × (y ≡ f.times (get_or p i 0) (power f 1 i))) t 0 c.product.result k room c.loop-k.invariant.1 (c.product.ensures.below, here) in
    (simp length-set c.loop-k.invariant.0, next)

pub returns : goal.returns
returns g c = λ k h.
    let f = g.A.Arithmetic.field c.args.a.now in
    let laws = g.met.A.Arithmetic.lawful c.args.a.now in
    let p = c.args.p.now in
    let d = p.degree in
    let t = c.loop-k.terms in
    let v = c.product-2.result in
    let long : length (poly p) ≡ d = length-take-le d p.low (omega arith) in
    let room : d < length t = omega (arith, c.loop-k.invariant.0) in
    let size : length (whole p) ≡ d + 1 = omega (arith, length-append (poly p) (1 ∷ [])) in
    let b : k < d + 1 = omega arith in
    let low : (i : ℕ) → i < d → (get_or t i 0 < 512) × (get_or t i 0 ≡ f.times (get_or (whole p) i 0) (power f 1 i)) = λ i l.
    let old = c.loop-k.invariant.1 i (omega arith) in
    let inside : i < length (poly p) = omega arith in
    (old.0, old.1 ∙ ap (λ z. f.times z (power f 1 i)) (sym (get_or_append_left (poly p) (1 ∷ []) 0 i inside))) in
    let last = c.product-2.ensures.value ∙ first_term laws 1 d ∙ ap (λ z. f.times z (power f 1 d)) (sym (get_or_at (poly p) 1 [] 0 d long)) in
    filled_more (λ i y. (y < 512) × (y ≡ f.times (get_or (whole p) i 0) (power f 1 i))) t 0 v d room low (c.product-2.ensures.below, last) k b
