-- The bench that the console drives. Assumes nothing.
use Rattle.std.specs.Prelude.{replicate, pos}
use Rattle.arithmetic.specs.Polynomials.{polynomials}
use Rattle.arithmetic.specs.declared.Arithmetic.{Ghosts}
use Rattle.arithmetic.specs.declared.tabled.Tabled.{Tabled}
use Rattle.lines.specs.LineCodes.{ring_pair}
use Rattle.lines.specs.Scramblers.{scrambler_mask}
use Rattle.lines.specs.declared.ring.Ring.{Ring}
use Rattle.lines.specs.declared.role.Role.{Role}
use Rattle.lines.specs.declared.scrambler.Scrambler.{Scrambler}
use Rattle.codec.specs.Ends.{End, made_over}
use Rattle.codec.specs.Locks.{new_lock}
use Rattle.bench.specs.Benches.{Standing, standing}
use Rattle.bench.specs.declared.bench.Bench.{Bench}

-- what these parts of an end mean
abbrev pub stands : {g : Ghosts Tabled} → Bench Tabled Scrambler Ring g → Standing
stands bench = standing (λ _. polynomials) (λ s k. scrambler_mask s.role s.state k) (λ _ w. ring_pair w) bench

-- the master at state 1, over the polynomials and the ring code
abbrev pub master : End
master = made_over polynomials (λ k. scrambler_mask Role.Master 1 k) (λ w. ring_pair w)

-- two such ends, with lock, and a line of zeros
abbrev pub standard : Standing
standard = record { sender = master; receiver = master; lock = new_lock; line = replicate 2700 (pos 0) }
