-- What an arithmetic means, and the laws that every arithmetic keeps. Assumes nothing.
use Rattle.std.specs.Prelude.{◌≡◌, ℕ, zero, suc, ◌%◌, ◌<◌, ◌≢◌}

-- sum, product and inverse of the elements, and the named element α
pub record Operations : Type 0 where
  pub plus : ℕ → ℕ → ℕ
  pub times : ℕ → ℕ → ℕ
  pub inverse : ℕ → ℕ
  pub alpha : ℕ

-- the elements are the numbers below this one
abbrev pub elements : ℕ
elements = 512

-- as many powers of α, from the power 0 on, are all different
abbrev pub longest : ℕ
longest = 450

-- a to the power n
abbrev pub power : Operations → ℕ → ℕ → ℕ
power f a zero = 1
power f a (suc n) = f.times a (power f a n)

-- the laws of a field in which every element is its own negative; larger numbers count modulo the number of elements
pub record Lawful (f : Operations) : Type 0 where
  pub plus_below : (a b : ℕ) → f.plus a b < elements
  pub times_below : (a b : ℕ) → f.times a b < elements
  pub inverse_below : (a : ℕ) → f.inverse a < elements
  pub alpha_below : f.alpha < elements
  pub plus_assoc : (a b c : ℕ) → f.plus (f.plus a b) c ≡ f.plus a (f.plus b c)
  pub plus_comm : (a b : ℕ) → f.plus a b ≡ f.plus b a
  pub plus_zero : (a : ℕ) → f.plus a 0 ≡ a % elements
  pub plus_self : (a : ℕ) → f.plus a a ≡ 0
  pub times_assoc : (a b c : ℕ) → f.times (f.times a b) c ≡ f.times a (f.times b c)
  pub times_comm : (a b : ℕ) → f.times a b ≡ f.times b a
  pub times_one : (a : ℕ) → f.times a 1 ≡ a % elements
  pub distributes : (a b c : ℕ) → f.times a (f.plus b c) ≡ f.plus (f.times a b) (f.times a c)
  pub inverse_zero : f.inverse 0 ≡ 0
  pub inverse_modulo : (a : ℕ) → f.inverse a ≡ f.inverse (a % elements)
  pub inverse_right : (a : ℕ) → 0 < a % elements → f.times a (f.inverse a) ≡ 1
  pub powers_differ : (i j : ℕ) → i < j → j < longest → power f f.alpha i ≢ power f f.alpha j

-- two arithmetics agree: all answers and α are equal
pub record Agree (f g : Operations) : Type 0 where
  pub sums : (a b : ℕ) → f.plus a b ≡ g.plus a b
  pub products : (a b : ℕ) → f.times a b ≡ g.times a b
  pub inverses : (a : ℕ) → f.inverse a ≡ g.inverse a
  pub alphas : f.alpha ≡ g.alpha
