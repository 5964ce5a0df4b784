-- Numbers as bits, the bit of weight 1 first, and bits as numbers. Assumes nothing.
use Rattle.std.specs.Prelude.{ℕ, zero, suc, ◌+◌, ◌*◌, ◌/◌, ◌%◌, List, [], ◌∷◌, ◌++◌, take, drop}

-- the n low bits of x, weight 1 first
unfoldable pub bits : ℕ → ℕ → List ℕ
bits zero x = []
bits (suc n) x = x % 2 ∷ bits n (x / 2)

-- the number that bits make, weight 1 first
unfoldable pub number : List ℕ → ℕ
number [] = 0
number (b ∷ bs) = b + 2 * number bs

-- n numbers out of bits, each of `size` bits
unfoldable pub packed : ℕ → ℕ → List ℕ → List ℕ
packed size zero bs = []
packed size (suc n) bs = number (take size bs) ∷ packed size n (drop size bs)

-- the bits of numbers, `size` bits of each
unfoldable pub unpacked : ℕ → List ℕ → List ℕ
unpacked size [] = []
unpacked size (x ∷ xs) = bits size x ++ unpacked size xs
