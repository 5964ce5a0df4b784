use Rattle.std.proofs.Common.{◌≡◌, ◌≢◌, ◌+◌, [], ◌∷◌, ◌++◌, length, sym, ap, ◌∙◌, arith}
use Rattle.std.proofs.lemmas.Bool.{eqb-true, eqb-false}
use Rattle.std.proofs.lemmas.List.{length_push}
use Rattle.std.specs.List.{filter}
use Rattle.codec.specs.Demapping.{is_changed, changed, upward}
use Rattle.codec.proofs.Listed.{upward_none, kept_yes, kept_no, kept_grows}
use Rattle.codec.proofs.received.Received.list_places.Goals as goal
use Rattle.codec.proofs.received.Received.list_places.Goals.{then-ne+else-is_full, else-ne}

pub loop-k-init : goal.loop-k-init
loop-k-init c = (c.new-places.ensures ∙ ap (filter (is_changed c.args.self.now.symbols c.args.word.now.symbols)) (sym upward_none), omega (arith, ap length c.new-places.ensures))

pub returns-then-is_full : goal.returns-then-is_full
unfolding changed
returns-then-is_full c =
    let t = is_changed c.args.self.now.symbols c.args.word.now.symbols in
    let k = c.loop-k.k in
    let full : length c.loop-k.places.items ≡ 22 = eqb-true _ _ (sym c.if-is_full.ensures.value) in
    omega (arith, full, ap length c.loop-k.invariant.0, ap length (kept_yes t k (sym c.if-ne.ensures)), length_push (filter t (upward 0 k)) k, kept_grows t (k + 1) 450 (omega (arith, c.loop-k-test.true)))

pub loop-k-preserved : goal.loop-k-preserved
loop-k-preserved c =
    let t = is_changed c.args.self.now.symbols c.args.word.now.symbols in
    let k = c.loop-k.k in
    elim c.if-ne.branch [
      | then-ne+else-is_full w ↦ (let room : length c.loop-k.places.items ≢ 22 = eqb-false _ _ (sym w.if-is_full.ensures.value) in
          rw w.places-is (w.push.ensures.items ∙ ap (λ l. l ++ (k ∷ [])) c.loop-k.invariant.0 ∙ sym (kept_yes t k (sym w.if-ne.ensures)), omega (arith, w.push.ensures.len, room, c.loop-k.invariant.1)))
      | else-ne w ↦ rw w.places-is (c.loop-k.invariant.0 ∙ sym (kept_no t k (sym w.if-ne.ensures)), c.loop-k.invariant.1)
    ]

pub returns : goal.returns
unfolding changed
returns c = let done : c.loop-k.k ≡ 450 = omega (arith, c.loop-k-test.false) in (c.loop-k.invariant.0 ∙ ap (λ n. filter (is_changed c.args.self.now.symbols c.args.word.now.symbols) (upward 0 n)) done, c.loop-k.invariant.1)
