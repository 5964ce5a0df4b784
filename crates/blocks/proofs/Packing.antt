-- Laws of bits, of the numbers that they make, and of packing and unpacking, over any size.
use Rattle.std.proofs.Common.{◌≡◌, ℕ, zero, suc, ◌+◌, ◌-◌, ◌*◌, ◌/◌, ◌%◌, ◌^◌, ◌<◌, ◌≤◌, List, [], ◌∷◌, ◌++◌, reverse, length, get_or, take, drop, sym, refl, ap, ◌∙◌, subst, inl, inr, zero-le, mod-eq_of_lt, mul_assoc, mul-zero, mul-suc, div-one, arith, length-take}
use native.Mathlib.Nat.{pow-le-pow_right, pow-succ', mod-one, sub-zero}
use Rattle.std.proofs.lemmas.Nat.{mod-pow-add, shr-shr, pow_pos}
use Rattle.std.proofs.lemmas.List.{length-append, length-take-le, length-drop, take-append-drop, take-append-le, drop-append-le, take_at, drop_at, drop_all, drop-drop, drop_more, get_or-drop, get_or_past, get_or-reverse, length-reverse, nil_from_length}
use Rattle.std.proofs.lemmas.Bool.{cases_lt}
use Rattle.std.proofs.Math.Seq.{take-append-add, drop-append-add}
use Rattle.blocks.specs.Bits.{bits, number, packed, unpacked}

-- lists, past a front of a known length

pub take_past : (p q : List ℕ) (n m : ℕ) → length p ≡ n → take (n + m) (p ++ q) ≡ p ++ take m q
take_past p q n m h = subst (λ k. take (k + m) (p ++ q) ≡ p ++ take m q) h (take-append-add p q m)

pub drop_past : (p q : List ℕ) (n m : ℕ) → length p ≡ n → drop (n + m) (p ++ q) ≡ drop m q
drop_past p q n m h = subst (λ k. drop (k + m) (p ++ q) ≡ drop m q) h (drop-append-add p q m)

pub length_bits : (n x : ℕ) → length (bits n x) ≡ n
unfolding bits
length_bits zero x = refl
length_bits (suc n) x = ap suc (length_bits n (x / 2))

pub drop_bits : (k n x : ℕ) → drop k (bits n x) ≡ bits (n - k) (x / 2 ^ k)
unfolding bits
drop_bits zero n x = rw (sub-zero n, div-one x)
drop_bits (suc k) zero x = let e : 0 - suc k ≡ 0 = omega arith in rw e
drop_bits (suc k) (suc n) x =
    let e : 1 + k ≡ suc k = omega arith in
    let f : suc n - suc k ≡ n - k = omega arith in
    drop_bits k n (x / 2) ∙ ap (bits (n - k)) (shr-shr x 1 k ∙ ap (λ i. x / 2 ^ i) e) ∙ ap (λ i. bits i (x / 2 ^ suc k)) (sym f)

pub take_bits : (k n x : ℕ) → k ≤ n → take k (bits n x) ≡ bits k x
unfolding bits
take_bits zero n x h = refl
take_bits (suc k) zero x h = absurd (omega arith)
take_bits (suc k) (suc n) x h = ap (λ l. x % 2 ∷ l) (take_bits k n (x / 2) (omega arith))

pub number_bits : (n x : ℕ) → number (bits n x) ≡ x % 2 ^ n
unfolding bits number
number_bits zero x = sym (mod-one x)
number_bits (suc n) x =
    let e : n + 1 ≡ suc n = omega arith in
    let f : x % 2 ^ suc n ≡ (x / 2 % 2 ^ n) * 2 + x % 2 = ap (λ i. x % 2 ^ i) (sym e) ∙ mod-pow-add x n 1 in
    ap (λ y. x % 2 + 2 * y) (number_bits n (x / 2)) ∙ omega (arith, f)

pub number_append : (xs ys : List ℕ) → number (xs ++ ys) ≡ number xs + 2 ^ length xs * number ys
unfolding number
number_append [] ys = omega arith
number_append (x ∷ xs) ys =
    let p : 2 ^ suc (length xs) * number ys ≡ 2 * (2 ^ length xs * number ys) = ap (λ y. y * number ys) (pow-succ' 2 (length xs)) ∙ mul_assoc 2 (2 ^ length xs) (number ys) in
    ap (λ y. x + 2 * y) (number_append xs ys) ∙ omega (arith, p)

-- lists of bits

abbrev pub Bits : List ℕ → Type 0
Bits bs = (k : ℕ) → get_or bs k 0 < 2

pub bits_nil : Bits []
bits_nil k = omega arith

pub bits_more : (b : ℕ) (bs : List ℕ) → b < 2 → Bits bs → Bits (b ∷ bs)
bits_more b bs h t zero = h
bits_more b bs h t (suc k) = t k

pub bits_of : (n x : ℕ) → Bits (bits n x)
unfolding bits
bits_of zero x = bits_nil
bits_of (suc n) x = bits_more (x % 2) (bits n (x / 2)) (omega arith) (bits_of n (x / 2))

pub bits_append : (xs ys : List ℕ) → Bits xs → Bits ys → Bits (xs ++ ys)
bits_append [] ys h t = t
bits_append (x ∷ xs) ys h t = bits_more x (xs ++ ys) (h 0) (bits_append xs ys (λ k. h (suc k)) t)

pub bits_drop : (n : ℕ) (bs : List ℕ) → Bits bs → Bits (drop n bs)
bits_drop n bs h k = rw (get_or-drop n bs k 0) (h (n + k))

pub bits_take : (n : ℕ) (bs : List ℕ) → Bits bs → Bits (take n bs)
bits_take zero bs h = bits_nil
bits_take (suc n) [] h = bits_nil
bits_take (suc n) (b ∷ bs) h = bits_more b (take n bs) (h 0) (bits_take n bs (λ k. h (suc k)))

pub bits_reverse : (bs : List ℕ) → Bits bs → Bits (reverse bs)
bits_reverse bs h k = elim (cases_lt k (length bs)) [
  | inl l ↦ rw (get_or-reverse bs k 0 l) (h (length bs - 1 - k))
  | inr l ↦ rw (get_or_past (reverse bs) k 0 (omega (arith, length-reverse bs))) (omega arith)
]

pub bits_number : (bs : List ℕ) → Bits bs → bits (length bs) (number bs) ≡ bs
unfolding bits number
bits_number [] h = refl
bits_number (b ∷ bs) h =
    let l : b < 2 = h 0 in
    let e : (b + 2 * number bs) % 2 ≡ b = omega arith in
    let f : (b + 2 * number bs) / 2 ≡ number bs = omega arith in
    rw (e, f) (ap (λ t. b ∷ t) (bits_number bs (λ k. h (suc k))))

pub number_below : (bs : List ℕ) → Bits bs → number bs < 2 ^ length bs
unfolding number
number_below [] h = omega arith
number_below (b ∷ bs) h = omega (arith, h 0, number_below bs (λ k. h (suc k)), pow-succ' 2 (length bs))

-- a number out of the end of one number's bits, and the start of the next one's

pub number_within : (d low x : ℕ) (rest : List ℕ) → number (take low (drop d (bits (d + low) x ++ rest))) ≡ x / 2 ^ d % 2 ^ low
number_within d low x rest =
    let l : d ≤ length (bits (d + low) x) = omega (arith, length_bits (d + low) x) in
    let e : d + low - d ≡ low = omega arith in
    let f : drop d (bits (d + low) x) ≡ bits low (x / 2 ^ d) = drop_bits d (d + low) x ∙ ap (λ i. bits i (x / 2 ^ d)) e in
    ap (λ t. number (take low t)) (drop-append-le d (bits (d + low) x) rest l ∙ ap (λ t. t ++ rest) f)
    ∙ ap number (take_at (bits low (x / 2 ^ d)) rest low (length_bits low (x / 2 ^ d)))
    ∙ number_bits low (x / 2 ^ d)

pub number_across : (d low high size x y : ℕ) (rest : List ℕ) → high ≤ size → number (take (low + high) (drop d (bits (d + low) x ++ (bits size y ++ rest)))) ≡ x / 2 ^ d % 2 ^ low + 2 ^ low * (y % 2 ^ high)
number_across d low high size x y rest h =
    let l : d ≤ length (bits (d + low) x) = omega (arith, length_bits (d + low) x) in
    let e : d + low - d ≡ low = omega arith in
    let f : drop d (bits (d + low) x) ≡ bits low (x / 2 ^ d) = drop_bits d (d + low) x ∙ ap (λ i. bits i (x / 2 ^ d)) e in
    let g : take high (bits size y ++ rest) ≡ bits high y = take-append-le high (bits size y) rest (omega (arith, length_bits size y)) ∙ take_bits high size y h in
    ap (λ t. number (take (low + high) t)) (drop-append-le d (bits (d + low) x) (bits size y ++ rest) l ∙ ap (λ t. t ++ (bits size y ++ rest)) f)
    ∙ ap number (take_past (bits low (x / 2 ^ d)) (bits size y ++ rest) low high (length_bits low (x / 2 ^ d)) ∙ ap (λ t. bits low (x / 2 ^ d) ++ t) g)
    ∙ number_append (bits low (x / 2 ^ d)) (bits high y)
    ∙ ap (λ n. number (bits low (x / 2 ^ d)) + 2 ^ n * number (bits high y)) (length_bits low (x / 2 ^ d))
    ∙ ap (λ n. n + 2 ^ low * number (bits high y)) (number_bits low (x / 2 ^ d))
    ∙ ap (λ n. x / 2 ^ d % 2 ^ low + 2 ^ low * n) (number_bits high y)

-- packing

pub length_packed : (size n : ℕ) (bs : List ℕ) → length (packed size n bs) ≡ n
unfolding packed
length_packed size zero bs = refl
length_packed size (suc n) bs = ap suc (length_packed size n (drop size bs))

pub get_or_packed : (size n : ℕ) (bs : List ℕ) (j : ℕ) → j < n → get_or (packed size n bs) j 0 ≡ number (take size (drop (size * j) bs))
unfolding packed
get_or_packed size zero bs j h = absurd (omega arith)
get_or_packed size (suc n) bs zero h = rw (mul-zero size)
get_or_packed size (suc n) bs (suc j) h =
    let e : size + size * j ≡ size * suc j = omega (arith, mul-suc size j) in
    get_or_packed size n (drop size bs) j (omega arith) ∙ ap (λ l. number (take size l)) (drop-drop (size * j) size bs ∙ ap (λ i. drop i bs) e)

pub packed_append : (size n m : ℕ) (bs rest : List ℕ) → length bs ≡ size * n → packed size (n + m) (bs ++ rest) ≡ packed size n bs ++ packed size m rest
unfolding packed
packed_append size zero m bs rest h =
    let e : 0 + m ≡ m = omega arith in
    rw (e, nil_from_length bs (h ∙ mul-zero size))
packed_append size (suc n) m bs rest h =
    let s : length bs ≡ size + size * n = omega (arith, mul-suc size n) in
    let e : suc n + m ≡ suc (n + m) = omega arith in
    let l : length (drop size bs) ≡ size * n = omega (arith, length-drop size bs) in
    rw (e, take-append-le size bs rest (omega arith), drop-append-le size bs rest (omega arith))
    (ap (λ t. number (take size bs) ∷ t) (packed_append size n m (drop size bs) rest l))

pub packed_below : (size n : ℕ) (bs : List ℕ) → Bits bs → (k : ℕ) → get_or (packed size n bs) k 0 < 2 ^ size
unfolding packed
packed_below size zero bs b k = pow_pos size
packed_below size (suc n) bs b zero =
    let l : length (take size bs) ≤ size = omega (arith, length-take size bs) in
    omega (arith, number_below (take size bs) (bits_take size bs b), pow-le-pow_right {n = 2} (omega arith) l)
packed_below size (suc n) bs b (suc k) = packed_below size n (drop size bs) (bits_drop size bs b) k

-- unpacking

pub length_unpacked : (size : ℕ) (xs : List ℕ) → length (unpacked size xs) ≡ size * length xs
unfolding unpacked
length_unpacked size [] = sym (mul-zero size)
length_unpacked size (x ∷ xs) = length-append (bits size x) (unpacked size xs) ∙ omega (arith, length_bits size x, length_unpacked size xs, mul-suc size (length xs))

pub unpacked_more : (size x : ℕ) (xs : List ℕ) → unpacked size (x ∷ xs) ≡ bits size x ++ unpacked size xs
unfolding unpacked
unpacked_more size x xs = refl

pub bits_unpacked : (size : ℕ) (xs : List ℕ) → Bits (unpacked size xs)
unfolding unpacked
bits_unpacked size [] = bits_nil
bits_unpacked size (x ∷ xs) = bits_append (bits size x) (unpacked size xs) (bits_of size x) (bits_unpacked size xs)

pub drop_unpacked : (size k : ℕ) (xs : List ℕ) → drop (size * k) (unpacked size xs) ≡ unpacked size (drop k xs)
unfolding unpacked
drop_unpacked size zero xs = rw (mul-zero size)
drop_unpacked size (suc k) [] = drop_all (size * suc k) [] zero-le
drop_unpacked size (suc k) (x ∷ xs) =
    let e : size * suc k ≡ size + size * k = omega (arith, mul-suc size k) in
    rw e (drop_past (bits size x) (unpacked size xs) size (size * k) (length_bits size x) ∙ drop_unpacked size k xs)

pub take_unpacked : (size k : ℕ) (xs : List ℕ) → take (size * k) (unpacked size xs) ≡ unpacked size (take k xs)
unfolding unpacked
take_unpacked size zero xs = rw (mul-zero size)
take_unpacked size (suc k) [] = nil_from_length (take (size * suc k) []) (omega (arith, length-take {A = ℕ} (size * suc k) []))
take_unpacked size (suc k) (x ∷ xs) =
    let e : size * suc k ≡ size + size * k = omega (arith, mul-suc size k) in
    rw e (take_past (bits size x) (unpacked size xs) size (size * k) (length_bits size x) ∙ ap (λ t. bits size x ++ t) (take_unpacked size k xs))

-- both

abbrev pub Fits : ℕ → List ℕ → Type 0
Fits size xs = (k : ℕ) → get_or xs k 0 < 2 ^ size

pub packed_unpacked : (size : ℕ) (xs : List ℕ) → Fits size xs → packed size (length xs) (unpacked size xs) ≡ xs
unfolding packed unpacked
packed_unpacked size [] h = refl
packed_unpacked size (x ∷ xs) h =
    let e : number (bits size x) ≡ x = number_bits size x ∙ mod-eq_of_lt (h 0) in
    rw (take_at (bits size x) (unpacked size xs) size (length_bits size x), drop_at (bits size x) (unpacked size xs) size (length_bits size x), e)
    (ap (λ t. x ∷ t) (packed_unpacked size xs (λ k. h (suc k))))

pub unpacked_packed : (size n : ℕ) (bs : List ℕ) → Bits bs → length bs ≡ size * n → unpacked size (packed size n bs) ≡ bs
unfolding packed unpacked
unpacked_packed size zero bs b h = sym (nil_from_length bs (h ∙ mul-zero size))
unpacked_packed size (suc n) bs b h =
    let s : length bs ≡ size + size * n = omega (arith, mul-suc size n) in
    let l : length (take size bs) ≡ size = length-take-le size bs (omega arith) in
    let e : bits size (number (take size bs)) ≡ take size bs = ap (λ i. bits i (number (take size bs))) (sym l) ∙ bits_number (take size bs) (bits_take size bs b) in
    rw e (ap (λ t. take size bs ++ t) (unpacked_packed size n (drop size bs) (bits_drop size bs b) (omega (arith, length-drop size bs))) ∙ take-append-drop size bs)

-- a number out of the bits of a list: the end of one number's bits, and the start of the next one's

split_at : (size place d : ℕ) (xs : List ℕ) → place < length xs → drop (size * place + d) (unpacked size xs) ≡ drop d (bits size (get_or xs place 0) ++ unpacked size (drop (place + 1) xs))
split_at size place d xs h =
    sym (drop-drop d (size * place) (unpacked size xs))
    ∙ ap (drop d) (drop_unpacked size place xs ∙ ap (unpacked size) (drop_more xs place 0 h) ∙ unpacked_more size (get_or xs place 0) (drop (place + 1) xs))

pub within_one : (size place d n at : ℕ) (xs : List ℕ) → d + n ≡ size → at ≡ size * place + d → place < length xs → number (take n (drop at (unpacked size xs))) ≡ get_or xs place 0 / 2 ^ d % 2 ^ n
within_one size place d n at xs s e h =
    ap (λ i. number (take n (drop i (unpacked size xs)))) e
    ∙ ap (λ l. number (take n l)) (split_at size place d xs h)
    ∙ ap (λ i. number (take n (drop d (bits i (get_or xs place 0) ++ unpacked size (drop (place + 1) xs))))) (sym s)
    ∙ number_within d n (get_or xs place 0) (unpacked size (drop (place + 1) xs))

pub across_two : (size place d low high n at : ℕ) (xs : List ℕ) → d + low ≡ size → high ≤ size → low + high ≡ n → at ≡ size * place + d → place + 1 < length xs → number (take n (drop at (unpacked size xs))) ≡ get_or xs place 0 / 2 ^ d % 2 ^ low + 2 ^ low * (get_or xs (place + 1) 0 % 2 ^ high)
across_two size place d low high n at xs s b f e h =
    let x : ℕ = get_or xs place 0 in
    let y : ℕ = get_or xs (place + 1) 0 in
    let more : unpacked size (drop (place + 1) xs) ≡ bits size y ++ unpacked size (drop (place + 1 + 1) xs) = ap (unpacked size) (drop_more xs (place + 1) 0 h) ∙ unpacked_more size y (drop (place + 1 + 1) xs) in
    ap (λ i. number (take i (drop at (unpacked size xs)))) (sym f)
    ∙ ap (λ i. number (take (low + high) (drop i (unpacked size xs)))) e
    ∙ ap (λ l. number (take (low + high) l)) (split_at size place d xs (omega arith))
    ∙ ap (λ l. number (take (low + high) (drop d (bits size x ++ l)))) more
    ∙ ap (λ i. number (take (low + high) (drop d (bits i x ++ (bits size y ++ unpacked size (drop (place + 1 + 1) xs)))))) (sym s)
    ∙ number_across d low high size x y (unpacked size (drop (place + 1 + 1) xs)) b
