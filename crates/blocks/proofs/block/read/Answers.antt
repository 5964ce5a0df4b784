use Rattle.std.proofs.Common.{◌≡◌, ℕ, ◌<◌, get_or, take, drop, length-drop, arith}
use Rattle.std.proofs.lemmas.List.{take_all}
use Rattle.std.proofs.lemmas.Result.{err_from_is_err_and}
use Rattle.blocks.proofs.Invalid.{head_refused, started_well, decoded}
use Rattle.blocks.proofs.block.read.Goals as goal

pub returns-in_err-start : goal.returns-in_err-start
returns-in_err-start g c =
    let p = err_from_is_err_and c.from_residual.result c.from_residual.ensures.1 in
    rw (p.1, p.2) (head_refused c.args.block.now c.in_err-start.field-0.0 c.in_err-start.ensures)

pub returns : goal.returns
returns g c =
    let s = started_well (get_or c.args.block.now 0 0) c.in_ok-start.field-0 c.in_ok-start.ensures in
    let octets : (k : ℕ) → get_or c.args.block.now k 0 < 256 = λ k. omega (arith, c.fits-block k) in
    let payload : take 10 (drop 1 c.args.block.now) ≡ drop 1 c.args.block.now = take_all 10 (drop 1 c.args.block.now) (simp length-drop (omega arith)) in
    decoded g.R.ReadAs.number c.args.block.now _ c.in_ok-start.field-0 _ c.read_payload.result c.told-block octets s.0 s.1 payload c.read_payload.ensures
