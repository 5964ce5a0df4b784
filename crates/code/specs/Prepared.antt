-- What a code prepares when it is made, and what its register holds. Assumes nothing.
use Rattle.std.specs.Prelude.{◌≡◌, ℕ, ◌<◌, List, [], length, slice_index, slice_index_or}
use Rattle.arithmetic.specs.Laws.{Operations, power, elements, longest}
use Rattle.code.specs.Words.{parity}
use Rattle.code.specs.Polynomials.{value, eval_monic}

-- the powers of α
abbrev pub Powers : Operations → List ℕ → Type 0
Powers f points = (i : ℕ) → i < longest → slice_index points i ≡ power f f.alpha i

-- the numbers below n are the places of roots of the monic polynomial with the coefficients p
abbrev pub Vanishes : Operations → (ℕ → ℕ) → ℕ → List ℕ → Type 0
Vanishes f x n p = (i : ℕ) → i < n → eval_monic f p (x i) ≡ 0

-- the row k has n symbols, and is worth k x^n at the first n powers of α
pub record Multiples (f : Operations) (n : ℕ) (rows : List (List ℕ)) : Type 0 where
  pub long : (k : ℕ) → k < elements → length (slice_index_or rows k []) ≡ n
  pub worth : (k j : ℕ) → k < elements → j < n
      → value f (power f f.alpha j) (slice_index_or rows k []) ≡ f.times k (power f (power f f.alpha j) (length (slice_index_or rows k [])))

-- the row j has the products of α^j and each element
abbrev pub Steps : Operations → ℕ → List (List ℕ) → Type 0
Steps f n steps = (j : ℕ) → j < n → (length (slice_index_or steps j []) ≡ elements) × ((x : ℕ) → x < elements → slice_index (slice_index_or steps j []) x ≡ f.times (power f f.alpha j) x)

-- at the first n powers of α the register is worth the message times x^length
pub record Divided (f : Operations) (n : ℕ) (message register : List ℕ) : Type 0 where
  pub worth : (j : ℕ) → j < n → value f (power f f.alpha j) register ≡ f.times (value f (power f f.alpha j) message) (power f (power f f.alpha j) (length register))

-- the tables are those of the arithmetic
pub record Ready (f : Operations) (points : List ℕ) (rows steps : List (List ℕ)) : Type 0 where
  pub powers : Powers f points
  pub multiples : Multiples f parity rows
  pub products : Steps f parity steps
