-- The rule of a table of powers and a table of logarithms. Assumes nothing.
use Rattle.std.specs.Prelude.{◌≡◌, ℕ, ◌+◌, ◌<◌, List, slice_index, slice_index_or}
use Rattle.arithmetic.specs.Polynomials.{twice}

-- after as many powers of α the first one comes again
abbrev pub round : ℕ
round = 511

pub record Tables (powers logarithms : List ℕ) : Type 0 where
  pub starts : slice_index_or powers 0 0 ≡ 1
  pub doubles : (k : ℕ) → k < round → slice_index powers (k + 1) ≡ twice (slice_index powers k)
  pub comes_round : slice_index_or powers round 0 ≡ 1
  pub undone : (k : ℕ) → k < round → slice_index logarithms (slice_index powers k) ≡ k
  pub none_of_zero : slice_index_or logarithms 0 0 ≡ round
