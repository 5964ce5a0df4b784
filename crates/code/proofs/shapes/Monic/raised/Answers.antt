use Rattle.std.proofs.Common.{◌≡◌, ◌+◌, ◌-◌, ◌≤◌, ◌++◌, length, replicate, ap, ◌∙◌, arith}
use Rattle.std.proofs.lemmas.List.{take-replicate, length-take-le}
use Rattle.std.proofs.lemmas.Slice.{take-put_mid}
use Rattle.code.proofs.shapes.Monic.raised.Goals as goal

pub returns-clause-shifted : goal.returns-clause-shifted
returns-clause-shifted c =
    let by = c.args.by in
    let d = c.args.self.now.degree in
    let copied = c.copy_from_slice.new.self in
    let after = c.copy_from_slice.ensures.after in
    let room : by ≤ 22 = omega arith in
    let long : length copied ≡ d = ap length after ∙ length-take-le d c.args.self.now.low (omega arith) in
    take-put_mid by (by + d - by) (replicate 22 0) copied (by + d) (omega arith) room
    ∙ ap (λ z. z ++ copied) (take-replicate by 22 0 room) ∙ ap (λ y. replicate by 0 ++ y) after
