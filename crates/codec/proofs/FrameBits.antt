-- The bits of a frame's blocks, in order, and the symbols that they make.
use Rattle.std.proofs.Common.{◌≡◌, ℕ, zero, suc, ◌+◌, ◌-◌, ◌*◌, ◌<◌, Bool, true, false, cond, List, [], ◌∷◌, ◌++◌, length, get_or, take, drop, Some, None, Option, sym, refl, ap, ◌∙◌, append_assoc, append-nil, mod-eq_of_lt, arith}
use Rattle.std.proofs.lemmas.List.{length-append, length-drop, drop-drop, take_at, take_all}
use Rattle.blocks.specs.Bits.{bits, number, packed, unpacked}
use Rattle.blocks.specs.Blocks.{pointer, pointer_bits, own_bits, fields, header, block_of}
use Rattle.blocks.specs.Characters.{is_control}
use Rattle.blocks.proofs.Packing.{Bits, bits_nil, bits_more, bits_of, bits_append, bits_reverse, bits_unpacked, length_bits, length_packed, length_unpacked, packed_append, packed_below, packed_unpacked, unpacked_packed, drop_unpacked, take_unpacked, number_bits, drop_past}
use Rattle.codec.specs.Frames.{block_bits, block_from, ten_at, blocks_bits, frame_bits, message_of, block_at}
use Rattle.blocks.proofs.Invalid.{Octets}

-- the block that characters make

pointer_are_bits : (due : Bool) (p : Option ℕ) → Bits (cond due (pointer_bits p) [])
pointer_are_bits false p = bits_nil
pointer_are_bits true None = bits_nil
pointer_are_bits true (Some p) = bits_of 5 p

own_are_bits : (c : ℕ) → Bits (own_bits c)
own_are_bits c = go (is_control c) refl
  where
    go : (b : Bool) → is_control c ≡ b → Bits (own_bits c)
    go true e = rw e (bits_reverse (bits 3 (c - 256)) (bits_of 3 (c - 256)))
    go false e = rw e (bits_of 8 c)

fields_are_bits : (due : Bool) (n : ℕ) (cs : List ℕ) → Bits (fields due n cs)
unfolding fields
fields_are_bits due n [] = bits_nil
fields_are_bits due n (c ∷ cs) =
    bits_append (cond due (pointer_bits (pointer n (c ∷ cs))) []) (own_bits c ++ fields (is_control c) (n + 1) cs) (pointer_are_bits due (pointer n (c ∷ cs)))
    (bits_append (own_bits c) (fields (is_control c) (n + 1) cs) (own_are_bits c) (fields_are_bits (is_control c) (n + 1) cs))

pub eleven_of : (cs : List ℕ) → length (block_of cs) ≡ 11
unfolding block_of
eleven_of cs = ap suc (length_packed 8 10 (fields true 0 cs))

pub header_of : (cs : List ℕ) → get_or (block_of cs) 0 0 < 2
unfolding block_of
header_of cs = go (pointer 0 cs)
  where
    go : (p : Option ℕ) → header p < 2
    go None = omega arith
    go (Some p) = omega arith

pub octets_of : (cs : List ℕ) → Octets (block_of cs)
unfolding block_of
octets_of cs zero = omega (arith, header_of cs)
octets_of cs (suc k) = packed_below 8 10 (fields true 0 cs) (fields_are_bits true 0 cs) k

-- the bits of a block

pub length_block_bits : (block : List ℕ) → length block ≡ 11 → length (block_bits block) ≡ 81
length_block_bits block h = omega (arith, length_unpacked 8 (drop 1 block), length-drop 1 block)

pub bits_block_bits : (block : List ℕ) → get_or block 0 0 < 2 → Bits (block_bits block)
bits_block_bits block h = bits_more (get_or block 0 0) (unpacked 8 (drop 1 block)) h (bits_unpacked 8 (drop 1 block))

back_from_bits : (block : List ℕ) → length block ≡ 11 → Octets block → block_from (block_bits block) ≡ block
back_from_bits [] h o = absurd (omega arith)
back_from_bits (b ∷ os) h o =
    let l : length os ≡ 10 = omega arith in
    ap (λ t. b ∷ t) (ap (λ n. packed 8 n (unpacked 8 os)) (sym l) ∙ packed_unpacked 8 os (λ k. o (suc k)))

pub back_from_symbols : (block : List ℕ) → length block ≡ 11 → Octets block → get_or block 0 0 < 2 → block_from (unpacked 9 (packed 9 9 (block_bits block))) ≡ block
back_from_symbols block h o b = ap block_from (unpacked_packed 9 9 (block_bits block) (bits_block_bits block b) (length_block_bits block h)) ∙ back_from_bits block h o

-- block k of a word is in its nine symbols from 9k on

pub block_at_is : (word : List ℕ) (k : ℕ) → block_at word k ≡ block_from (unpacked 9 (take 9 (drop (9 * k) word)))
unfolding block_at
block_at_is word k =
    let e : 81 * k ≡ 9 * (9 * k) = omega arith in
    ap block_from (ap (λ n. take 81 (drop n (unpacked 9 word))) e ∙ ap (take 81) (drop_unpacked 9 (9 * k) word) ∙ take_unpacked 9 9 (drop (9 * k) word))

-- the bits of the blocks of a frame

pub length_blocks_bits : (n : ℕ) (cs : List ℕ) → length (blocks_bits n cs) ≡ 81 * n
unfolding blocks_bits
length_blocks_bits zero cs = refl
length_blocks_bits (suc n) cs =
    length-append (block_bits (block_of (take 10 cs))) (blocks_bits n (drop 10 cs))
    ∙ omega (arith, length_block_bits (block_of (take 10 cs)) (eleven_of (take 10 cs)), length_blocks_bits n (drop 10 cs))

pub bits_blocks_bits : (n : ℕ) (cs : List ℕ) → Bits (blocks_bits n cs)
unfolding blocks_bits
bits_blocks_bits zero cs = bits_nil
bits_blocks_bits (suc n) cs = bits_append (block_bits (block_of (take 10 cs))) (blocks_bits n (drop 10 cs)) (bits_block_bits (block_of (take 10 cs)) (header_of (take 10 cs))) (bits_blocks_bits n (drop 10 cs))

pub ten_later : (cs : List ℕ) (k : ℕ) → ten_at (drop 10 cs) k ≡ ten_at cs (suc k)
ten_later cs k = let e : 10 + 10 * k ≡ 10 * suc k = omega arith in ap (take 10) (drop-drop (10 * k) 10 cs ∙ ap (λ n. drop n cs) e)

pub blocks_bits_more : (n : ℕ) (cs : List ℕ) → blocks_bits (n + 1) cs ≡ blocks_bits n cs ++ block_bits (block_of (ten_at cs n))
unfolding blocks_bits
blocks_bits_more zero cs = append-nil (block_bits (block_of (take 10 cs)))
blocks_bits_more (suc n) cs =
    let e : suc n + 1 ≡ suc (n + 1) = omega arith in
    rw e
    (ap (λ t. block_bits (block_of (take 10 cs)) ++ t) (blocks_bits_more n (drop 10 cs) ∙ ap (λ t. blocks_bits n (drop 10 cs) ++ block_bits (block_of t)) (ten_later cs n))
    ∙ sym (append_assoc (block_bits (block_of (take 10 cs))) (blocks_bits n (drop 10 cs)) (block_bits (block_of (ten_at cs (suc n))))))

-- the symbols of the blocks of a frame

pub symbols_more : (n : ℕ) (cs : List ℕ) → packed 9 (9 * (n + 1)) (blocks_bits (n + 1) cs) ≡ packed 9 (9 * n) (blocks_bits n cs) ++ packed 9 9 (block_bits (block_of (ten_at cs n)))
symbols_more n cs =
    let e : 9 * (n + 1) ≡ 9 * n + 9 = omega arith in
    let l : length (blocks_bits n cs) ≡ 9 * (9 * n) = omega (arith, length_blocks_bits n cs) in
    ap (λ m. packed 9 m (blocks_bits (n + 1) cs)) e ∙ ap (packed 9 (9 * n + 9)) (blocks_bits_more n cs) ∙ packed_append 9 (9 * n) 9 (blocks_bits n cs) (block_bits (block_of (ten_at cs n))) l

symbols_first : (n : ℕ) (cs : List ℕ) → packed 9 (9 * suc n) (blocks_bits (suc n) cs) ≡ packed 9 9 (block_bits (block_of (take 10 cs))) ++ packed 9 (9 * n) (blocks_bits n (drop 10 cs))
unfolding blocks_bits
symbols_first n cs =
    let e : 9 * suc n ≡ 9 + 9 * n = omega arith in
    ap (λ m. packed 9 m (blocks_bits (suc n) cs)) e ∙ packed_append 9 9 (9 * n) (block_bits (block_of (take 10 cs))) (blocks_bits n (drop 10 cs)) (length_block_bits (block_of (take 10 cs)) (eleven_of (take 10 cs)))

-- the nine at place k, of a list that begins with nine
nine_later : (xs ys : List ℕ) (k : ℕ) → length xs ≡ 9 → take 9 (drop (9 * suc k) (xs ++ ys)) ≡ take 9 (drop (9 * k) ys)
nine_later xs ys k h = let e : 9 * suc k ≡ 9 + 9 * k = omega arith in ap (λ m. take 9 (drop m (xs ++ ys))) e ∙ ap (take 9) (drop_past xs ys 9 (9 * k) h)

pub symbols_at : (n : ℕ) (cs : List ℕ) (k : ℕ) → k < n → take 9 (drop (9 * k) (packed 9 (9 * n) (blocks_bits n cs))) ≡ packed 9 9 (block_bits (block_of (ten_at cs k)))
symbols_at zero cs k h = absurd (omega arith)
symbols_at (suc n) cs zero h = ap (take 9) (symbols_first n cs) ∙ take_at (packed 9 9 (block_bits (block_of (take 10 cs)))) (packed 9 (9 * n) (blocks_bits n (drop 10 cs))) 9 (length_packed 9 9 (block_bits (block_of (take 10 cs))))
symbols_at (suc n) cs (suc k) h =
    ap (λ t. take 9 (drop (9 * suc k) t)) (symbols_first n cs)
    ∙ nine_later (packed 9 9 (block_bits (block_of (take 10 cs)))) (packed 9 (9 * n) (blocks_bits n (drop 10 cs))) k (length_packed 9 9 (block_bits (block_of (take 10 cs))))
    ∙ symbols_at n (drop 10 cs) k (omega arith)
    ∙ ap (λ t. packed 9 9 (block_bits (block_of t))) (ten_later cs k)

-- the symbols of a frame

one_symbol : (symbol : ℕ) → symbol < 512 → packed 9 1 (bits 9 symbol) ≡ symbol ∷ []
unfolding packed
one_symbol symbol h = ap (λ x. x ∷ []) (ap number (take_all 9 (bits 9 symbol) (omega (arith, length_bits 9 symbol))) ∙ number_bits 9 symbol ∙ mod-eq_of_lt h)

pub message_is : (cs : List ℕ) (symbol : ℕ) → symbol < 512 → message_of cs symbol ≡ packed 9 (9 * 45) (blocks_bits 45 cs) ++ symbol ∷ []
unfolding message_of frame_bits
message_is cs symbol h =
    packed_append 9 405 1 (blocks_bits 45 cs) (bits 9 symbol) (length_blocks_bits 45 cs)
    ∙ ap (λ t. packed 9 405 (blocks_bits 45 cs) ++ t) (one_symbol symbol h)
