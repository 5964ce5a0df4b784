-- Numbers below 512 as polynomials over two elements, modulo x⁹ + x⁴ + 1: bit i is the coefficient of xⁱ. Assumes nothing.
use Rattle.std.specs.Prelude.{ℕ, zero, suc, ◌*◌, ◌/◌, ◌%◌, cond, ◌==◌, bit_xor, nat_lt}
use Rattle.arithmetic.specs.Laws.{Operations, elements}

-- x⁹ + x⁴ + 1
abbrev pub modulus : ℕ
modulus = 529

-- what a polynomial of degree at most nine leaves when it is divided by the modulus
abbrev pub reduced : ℕ → ℕ
reduced a = cond (nat_lt a elements) a (bit_xor a modulus)

-- x times a: each bit moves up by one place
unfoldable pub twice : ℕ → ℕ
twice a = reduced (a % elements * 2)

-- the sum of the xⁱ a over the places i below n at which b has a bit
unfoldable pub gathered : ℕ → ℕ → ℕ → ℕ
gathered zero a b = 0
gathered (suc n) a b = bit_xor (b % 2 * a) (gathered n (twice a) (b / 2))

unfoldable pub sum : ℕ → ℕ → ℕ
sum a b = bit_xor (a % elements) (b % elements)

unfoldable pub product : ℕ → ℕ → ℕ
product a b = gathered 9 (a % elements) (b % elements)

-- the number below n whose product with a is 1, and 0 where there is none
unfoldable pub undoing : ℕ → ℕ → ℕ
undoing zero a = 0
undoing (suc n) a = cond (product a n == 1) n (undoing n a)

unfoldable pub inverse : ℕ → ℕ
inverse a = undoing elements a

-- α is x
abbrev pub polynomials : Operations
polynomials = record { plus = sum; times = product; inverse = inverse; alpha = 2 }
