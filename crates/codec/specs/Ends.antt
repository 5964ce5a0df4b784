-- What an end is made over. Assumes nothing.
use Rattle.std.specs.Prelude.{◌≡◌, ℕ, ◌+◌, ◌*◌, ◌<◌, ℤ}
use Rattle.arithmetic.specs.Laws.{Operations, Lawful}
use Rattle.arithmetic.specs.Laws as laws
use Rattle.lines.specs.Scramblers.{StreamsAgree}
use Rattle.lines.specs.LineCodes.{LineCodesAgree}

-- an arithmetic, the masks that a stream has still to come, and the pairs of a line code
pub record End : Type 0 where
  pub field : Operations
  pub mask : ℕ → ℕ
  pub pair : ℕ → ℤ × ℤ

abbrev pub made_over : Operations → (ℕ → ℕ) → (ℕ → ℤ × ℤ) → End
made_over field mask pair = record { field = field; mask = mask; pair = pair }

-- all answers of the arithmetics, all masks and all eight pairs are equal
pub record Agree (a b : End) : Type 0 where
  pub arithmetics : laws.Agree a.field b.field
  pub streams : StreamsAgree a.mask b.mask
  pub codes : LineCodesAgree a.pair b.pair

-- where an end stands some periods later: a period uses up 450 masks, and nothing else changes
pub record Later (periods : ℕ) (before after : End) : Type 0 where
  pub arithmetic : after.field ≡ before.field
  pub masks : (k : ℕ) → after.mask k ≡ before.mask (450 * periods + k)
  pub code : after.pair ≡ before.pair

-- the parts of an end keep their laws
pub record LawfulEnd (end : End) : Type 0 where
  pub field : Lawful end.field
  pub masks : (k : ℕ) → end.mask k < 512
  pub pairs : (v w : ℕ) → v < 8 → w < 8 → end.pair v ≡ end.pair w → v ≡ w
