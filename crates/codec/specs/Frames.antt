-- A frame: 45 blocks and the management symbol, cut into code symbols; and what a codeword carries. Assumes nothing.
use Rattle.std.specs.Prelude.{ℕ, zero, suc, ◌*◌, List, [], ◌∷◌, ◌++◌, take, drop, slice_index}
use Rattle.blocks.specs.Bits.{bits, packed, unpacked}
use Rattle.blocks.specs.Blocks.{block_of}

-- the bits of a block in the order in which they are sent: the header bit, then the payload
abbrev pub block_bits : List ℕ → List ℕ
block_bits block = slice_index block 0 ∷ unpacked 8 (drop 1 block)

-- the block that has these 81 bits
abbrev pub block_from : List ℕ → List ℕ
block_from bs = slice_index bs 0 ∷ packed 8 10 (drop 1 bs)

-- the ten characters of block k
abbrev pub ten_at : List ℕ → ℕ → List ℕ
ten_at characters k = take 10 (drop (10 * k) characters)

-- the bits of n blocks of ten characters each, in order
unfoldable pub blocks_bits : ℕ → List ℕ → List ℕ
blocks_bits zero characters = []
blocks_bits (suc n) characters = block_bits (block_of (take 10 characters)) ++ blocks_bits n (drop 10 characters)

-- 45 blocks, then the management symbol, weight 1 first: 3,654 bits
unfoldable pub frame_bits : List ℕ → ℕ → List ℕ
frame_bits characters symbol = blocks_bits 45 characters ++ bits 9 symbol

-- the 406 code symbols of a frame, nine bits each
unfoldable pub message_of : List ℕ → ℕ → List ℕ
message_of characters symbol = packed 9 406 (frame_bits characters symbol)

-- block k of a word of code symbols: its bits 81k to 81k + 80
unfoldable pub block_at : List ℕ → ℕ → List ℕ
block_at word k = block_from (take 81 (drop (81 * k) (unpacked 9 word)))

-- the management symbol of a word: the last symbol ahead of the parity
abbrev pub symbol_of : List ℕ → ℕ
symbol_of word = slice_index word 405
