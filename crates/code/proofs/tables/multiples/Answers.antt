use Rattle.std.proofs.Common.{◌≡◌, length, sym, ap, ◌∙◌, arith}
use Rattle.arithmetic.specs.Laws.{power}
use Rattle.code.proofs.Values.{eval_root}
use Rattle.code.proofs.tables.multiples.Goals as goal

pub returns : goal.returns
returns g c =
    let f = g.A.Arithmetic.field c.args.a.now in
    let lg : length c.args.g.now ≡ 44 = omega arith in
    record {
      long = λ k h. (c.loop-k.invariant.1 k (omega arith)).0;
      worth = λ k j h b.
          let x = power f f.alpha j in
          let row = c.loop-k.invariant.1 k (omega arith) in
          row.1 x ∙ ap (f.times k) (eval_root (g.met.A.Arithmetic.lawful c.args.a.now) c.args.g.now x (c.requires j b) ∙ ap (power f x) (lg ∙ sym row.0));
    }
