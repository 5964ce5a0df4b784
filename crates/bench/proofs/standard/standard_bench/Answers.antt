use Rattle.std.proofs.Common.{◌≡◌, ap, ◌∙◌}
use Rattle.arithmetic.specs.Polynomials.{polynomials}
use Rattle.lines.specs.LineCodes.{ring_pair}
use Rattle.lines.specs.Scramblers.{scrambler_mask}
use Rattle.lines.specs.declared.role.Role.{Role}
use Rattle.lines.specs.declared.scrambler.Scrambler.{Scrambler}
use Rattle.codec.specs.Ends.{made_over}
use Rattle.bench.specs.Standard.{master}
use Rattle.bench.proofs.standard.standard_bench.Goals as goal

-- an end over a master's stream at state 1
is_master : (s : Scrambler) → s.role ≡ Role.Master → s.state ≡ 1 → made_over polynomials (λ k. scrambler_mask s.role s.state k) (λ w. ring_pair w) ≡ master
is_master s role state =
    ap (λ r. made_over polynomials (λ k. scrambler_mask r s.state k) (λ w. ring_pair w)) role
    ∙ ap (λ n. made_over polynomials (λ k. scrambler_mask Role.Master n k) (λ w. ring_pair w)) state

pub returns-clause-both_ends_alike : goal.returns-clause-both_ends_alike
returns-clause-both_ends_alike c =
    let p = c.from_seed-stream.ensures.role_and_seed in
    let m = is_master c.from_seed-stream.result p.0 p.1 in
    let sender = c.new.ensures.stands_new ∙ m in
    let receiver = c.new-2.ensures.stands_new ∙ m in
    let lock = c.new-2.ensures.has_lock in
    c.new-3.ensures.stands_new ∙ cc
