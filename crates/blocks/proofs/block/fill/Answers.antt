use Rattle.std.proofs.Common.{◌≡◌, [], append-nil, length, sym, ap, ◌∙◌}
use Rattle.std.proofs.lemmas.List.{length-map}
use Rattle.std.specs.Int.{from_bool}
use Rattle.blocks.specs.Numbers.{number_of}
use Rattle.blocks.proofs.WriteLoop.{filled_none, last_of, octet_fits, one_more, filled_all, header_byte}
use Rattle.blocks.proofs.block.fill.Goals as goal

pub loop-k-init : goal.loop-k-init
loop-k-init c =
    let it = c.into_iter-k-iterator.ensures.into_iter_gives in
    let all : c.into_iter-k-iterator.result.iter.iter.rest.now ≡ c.args.characters.now =
    ap (λ i. i.iter.iter.rest.now) it ∙ ap (λ i. i.iter.rest.now) c.rev-k-items.ensures.source ∙ ap (λ i. i.rest.now) c.enumerate.ensures.source ∙ c.iter.ensures.rest in
    record {
      numbered = ap (λ i. i.iter.count) it ∙ ap (λ i. i.count) c.rev-k-items.ensures.source ∙ c.enumerate.ensures.count;
      front = ([], append-nil _ ∙ all);
      filled = filled_none _ c.args.block.now _ (length-map c.args.characters.now number_of ∙ ap length (sym all)) (ap length all ∙ c.told-characters) c.told-block;
    }

pub octet-requires : goal.octet-requires
octet-requires c =
    let s = c.in-Some.ensures.steps in
    octet_fits _ _ _ _ _ _ _ (last_of _ _ _ _ _ _ _ _ c.told-characters c.loop-k.invariant.numbered c.loop-k.invariant.front c.loop-k.invariant.filled s.1.0 s.1.1) c.lead-pointer.ensures.pointer

pub loop-k-preserved : goal.loop-k-preserved
loop-k-preserved c =
    let s = c.in-Some.ensures.steps in
    let p = last_of _ _ _ _ _ _ _ _ c.told-characters c.loop-k.invariant.numbered c.loop-k.invariant.front c.loop-k.invariant.filled s.1.0 s.1.1 in
    record {
      numbered = s.0 ∙ c.loop-k.invariant.numbered;
      front = p.front;
      filled = one_more _ _ _ _ _ _ _ _ _ p c.lead-pointer.ensures.of_a_character c.preceding.ensures c.lead-pointer.ensures.pointer c.octet.ensures;
    }

pub returns : goal.returns
returns c =
    filled_all _ c.loop-k.block c.loop-k.pointer _ _ (length-map c.args.characters.now number_of ∙ c.told-characters) c.in-None.ensures.steps.1.0 c.loop-k.invariant.filled (c.from.ensures ∙ ap from_bool c.is_some.ensures ∙ header_byte c.loop-k.pointer)
