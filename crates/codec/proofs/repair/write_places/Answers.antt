use Rattle.std.proofs.Common.{◌++◌, length, drop, replicate, ap, ◌∙◌, ap₂}
use Rattle.std.proofs.lemmas.List.{drop-replicate}
use Rattle.codec.specs.Lines.{padded}
use Rattle.codec.proofs.repair.write_places.Goals as goal

pub returns : goal.returns
unfolding padded
returns c =
    let n = length c.args.places.now in
    let fill = c.fill.ensures.after (λ y e. e) ∙ ap (λ m. replicate m 450) c.told-buffer in
    ap₂ (λ x y. x ++ drop n y) c.copy_from_slice.ensures.after fill ∙ ap (λ x. c.args.places.now ++ x) (drop-replicate n 22 450)
