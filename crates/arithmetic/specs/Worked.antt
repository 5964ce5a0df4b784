-- A few values by which another implementation can be tried. Assumes nothing.
use Rattle.std.specs.Prelude.{◌≡◌}
use Rattle.arithmetic.specs.Laws.{Operations, power}

pub record Worked (f : Operations) : Type 0 where
  pub ninth_power : power f f.alpha 9 ≡ 17
  pub fourteenth_power : power f f.alpha 14 ≡ 49
  pub inverse_of_two : f.inverse 2 ≡ 264
