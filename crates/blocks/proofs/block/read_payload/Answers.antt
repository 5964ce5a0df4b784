use Rattle.std.proofs.Common.{rules, ◌≡◌, ◌+◌, get_or, arith}
use Rattle.std.proofs.lemmas.Result.{err_from_is_err_and}
use Rattle.blocks.proofs.ReadLoop as loops
use Rattle.blocks.proofs.block.read_payload.Goals as goal

pub returns-in_err-c : goal.returns-in_err-c
returns-in_err-c g c =
    let p = err_from_is_err_and c.from_residual.result c.from_residual.ensures.1 in
    let n : c.unwrap_or-next.result ≡ get_or c.args.payload.now (c.loop-k.k + 1) 0 = search rules in
    rw (p.1, p.2) (loops.read_stop g.R.ReadAs.number c.args.first c.loop-k.ahead c.loop-k.k _ c.in_err-c.field-0.0 c.loop-k.ten c.args.payload.now c.requires (omega arith) n c.in_err-c.ensures c.loop-k.invariant)

pub loop-k-preserved : goal.loop-k-preserved
loop-k-preserved g c =
    let n : c.unwrap_or-next.result ≡ get_or c.args.payload.now (c.loop-k.k + 1) 0 = search rules in
    loops.read_more g.R.ReadAs.number c.args.first c.loop-k.ahead c.in_ok-c.after c.loop-k.k _ _ c.of.result c.loop-k.ten c.args.payload.now c.requires (omega arith) n c.in_ok-c.ensures c.of.ensures c.loop-k.invariant

pub returns : goal.returns
returns g c =
    loops.read_all g.R.ReadAs.number c.args.first c.loop-k.ahead c.loop-k.k c.loop-k.ten c.args.payload.now c.requires (omega arith) c.loop-k.invariant
