use Rattle.std.proofs.Common.{◌≡◌, [], get_or, refl, ap, ◌∙◌, subst, arith, length-set}
use Rattle.codec.specs.Lines.{group}
use Rattle.codec.specs.Demapping.{Descrambled, Demapped}
use Rattle.codec.proofs.Nearness.{read_nine_bits}
use Rattle.code.proofs.Filled.{chunk_at}
use Rattle.codec.proofs.Turns.{used_more, used_all, mask_now, demapped_more}
use Rattle.codec.proofs.ends.Parts.read_line.Goals as goal

pub loop-k-preserved : goal.loop-k-preserved
loop-k-preserved g c =
    let pair = g.L.LineCode.pair c.args.self.now.line_code in
    let start = g.S.Stream.mask c.args.self.now.stream in
    let before = g.S.Stream.mask c.loop-k.stream in
    let k = c.loop-k.k in
    let line = c.args.line.now in
    let inv = c.loop-k.invariant in
    let mask = mask_now start before k _ inv.2 c.next-mask.ensures.first_mask in
    let chunk = c.as_chunks.ensures.front in
    let chunks = c.as_chunks.ensures.front_len in
    let six = ap (λ gs. get_or gs k []) chunk ∙ chunk_at 6 _ line k (omega (arith, chunks, c.told-line, c.loop-k-test.true)) in
    let here = subst (λ m. Descrambled pair m (group line k) c.descramble.result) mask (subst (λ six. Descrambled pair c.next-mask.result six c.descramble.result) six c.descramble.ensures) in (
      length-set _ _ _ ∙ inv.0,
      demapped_more pair start line c.loop-k.symbols k c.descramble.result (omega (arith, inv.0, chunks, c.told-line, c.loop-k-test.true)) inv.1 here,
      used_more start before _ k inv.2 c.next-mask.ensures.others_follow,
    )

pub returns-clause-stands_later : goal.returns-clause-stands_later
returns-clause-stands_later g c =
    let done : c.loop-k.k ≡ 450 = omega (arith, c.as_chunks.ensures.front_len, c.told-line) in
    record { arithmetic = refl; code = refl; masks = used_all (g.S.Stream.mask c.args.self.now.stream) (g.S.Stream.mask c.loop-k.stream) c.loop-k.k done c.loop-k.invariant.2 }

pub invariant_of-result : goal.invariant_of-result
invariant_of-result g c =
    let full : c.loop-k.k ≡ 450 = omega (arith, c.as_chunks.ensures.front_len, c.told-line) in
    let demapped : Demapped (g.L.LineCode.pair c.args.self.now.line_code) (g.S.Stream.mask c.args.self.now.stream) c.args.line.now c.loop-k.symbols =
    record { full = c.loop-k.invariant.0; groups = λ i h. c.loop-k.invariant.1 i (omega arith) } in
    record { nine_bits = read_nine_bits demapped }
