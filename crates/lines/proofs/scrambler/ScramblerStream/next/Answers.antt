use Rattle.std.proofs.Common.{ℕ, ◌*◌, ◌/◌, ◌%◌, ◌<◌, reverse, sym, ap, ◌∙◌, subst}
use lib.Bits.{bit_and, bit_xor}
use Rattle.blocks.specs.Bits.{bits, number}
use Rattle.lines.specs.Scramblers.{scrambler_mask}
use Rattle.lines.specs.Moves.{state_after_state, mask_later}
use Rattle.lines.proofs.NineAtOnce.{next_state_right, mask_right}
use Rattle.lines.proofs.scrambler.ScramblerStream.next.Goals as goal

pub invariant_of-self : goal.invariant_of-self
invariant_of-self c =
    let now = c.args.self.now in
    let left = next_state_right now.role now.state _ now.ok.1 c.fed_back-fed.ensures.nine_moves_on in
    record { ok = subst (λ (s : ℕ). (0 < s) × (s < 32768)) (sym left) (state_after_state now.role now.state 9 now.ok.0 now.ok.1) }

pub returns : goal.returns
returns c =
    let now = c.args.self.now in
    let fed = c.fed_back-fed.ensures.nine_moves_on in
    let left = next_state_right now.role now.state _ now.ok.1 fed in
    record {
      first_mask =
          c.reversed.ensures.other_order
          ∙ ap (λ (f : ℕ). number (reverse (bits 9 (bit_xor (bit_and now.state 1 * 256 % 65536) (f / 2))))) fed
          ∙ mask_right now.role now.state now.ok.1;
      others_follow = λ k. ap (λ (s : ℕ). scrambler_mask now.role s k) left ∙ mask_later now.role now.state k;
    }
