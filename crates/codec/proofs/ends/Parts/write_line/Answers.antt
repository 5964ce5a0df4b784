use Rattle.std.proofs.Common.{◌≡◌, ◌*◌, ◌<◌, length, refl, sym, ap, ◌∙◌, subst, arith, rules}
use Rattle.codec.specs.Lines.{line_frame}
use Rattle.codec.proofs.Groups.{length_group, xor_small}
use Rattle.codec.proofs.Turns.{length_put_mid, used_none, used_more, used_all, mask_now, written_none, written_more, written_all}
use Rattle.codec.proofs.ends.Parts.write_line.Goals as goal

pub write_group-requires : goal.write_group-requires
write_group-requires g c =
    let mask : c.next-mask.result < 512 = subst (λ m. m < 512) (sym c.next-mask.ensures.first_mask) (g.met.S.Stream.bounded c.loop-k.stream 0) in
    record { nine_bits = xor_small _ _ (c.args.word.now.elements.small c.loop-k.k) mask; six = search rules }

pub loop-k-preserved : goal.loop-k-preserved
loop-k-preserved g c =
    let start = g.S.Stream.mask c.args.self.now.stream in
    let before = g.S.Stream.mask c.loop-k.stream in
    let within : c.loop-k.k < length c.args.word.now.symbols = omega (arith, c.args.word.now.elements.full, c.loop-k-test.true) in (
      length_put_mid (6 * c.loop-k.k) _ c.loop-k.line c.write_group.new.group (omega (arith, c.loop-k.invariant.0, c.loop-k-test.true)) (ap length c.write_group.ensures ∙ length_group _ _ ∙ omega arith) ∙ c.loop-k.invariant.0,
      written_more (g.L.LineCode.pair c.args.self.now.line_code) start c.loop-k.k _ c.next-mask.result c.loop-k.line c.write_group.new.group c.args.word.now.symbols within (omega (arith, c.loop-k.invariant.0, c.args.word.now.elements.full))
          (mask_now start before c.loop-k.k _ c.loop-k.invariant.2 c.next-mask.ensures.first_mask) c.loop-k.invariant.1 c.write_group.ensures,
      used_more start before _ c.loop-k.k c.loop-k.invariant.2 c.next-mask.ensures.others_follow,
    )

pub returns : goal.returns
unfolding line_frame
returns g c =
    let done : c.loop-k.k ≡ 450 = omega (arith, c.args.word.now.elements.full) in
    record {
      written = written_all (g.L.LineCode.pair c.args.self.now.line_code) (g.S.Stream.mask c.args.self.now.stream) c.loop-k.k c.loop-k.line c.args.word.now.symbols (omega (arith, c.loop-k.invariant.0, c.args.word.now.elements.full)) (omega (arith, c.args.word.now.elements.full)) c.loop-k.invariant.1;
      stands_later = record { arithmetic = refl; code = refl; masks = used_all (g.S.Stream.mask c.args.self.now.stream) (g.S.Stream.mask c.loop-k.stream) c.loop-k.k done c.loop-k.invariant.2 };
    }

pub loop-k-init : goal.loop-k-init
loop-k-init g c = (c.told-line, written_none (g.L.LineCode.pair c.args.self.now.line_code) (g.S.Stream.mask c.args.self.now.stream), used_none (g.S.Stream.mask c.args.self.now.stream))
