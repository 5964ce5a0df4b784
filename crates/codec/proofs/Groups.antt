-- Groups of six line symbols: the three pairs of a scrambled symbol, and the symbol back. Assumes nothing.
use Rattle.std.proofs.Common.{◌≡◌, ℕ, ◌+◌, ◌*◌, ◌/◌, ◌%◌, ◌<◌, Bool, true, false, not, T, eqb, List, [], ◌∷◌, length, get_or, set, Some, None, Option, ℤ, pos, negsuc, sym, refl, ap, ◌∙◌, arith, w8, SFits, to_z, of_z, eqb-true}
use Rattle.std.proofs.lemmas.Int.{ints, to_z-of_z}
use Rattle.std.proofs.lemmas.Bool.{and_parts, eqb-false, false_from_ne_true}
use lib.Bits.{bit_xor, xor_assoc, xor_self, xor_zero_r, xor_lt}
use lib.Signed.{le_z}
use Rattle.std.specs.Option.{option_eq}
use Rattle.blocks.specs.Bits.{bits, number, packed}
use Rattle.lines.specs.LineCodes.{is_line_symbol, LinePair}
use Rattle.codec.specs.Lines.{pairs, line_group, same}
use Rattle.codec.specs.Demapping.{Descrambled}

-- different words write different pairs
abbrev pub Distinct : (ℕ → ℤ × ℤ) → Type 0
Distinct pair = (v w : ℕ) → v < 8 → w < 8 → pair v ≡ pair w → v ≡ w

-- the six line symbols of three words
abbrev pub six_of : (ℕ → ℤ × ℤ) → ℕ → ℕ → ℕ → List ℤ
six_of pair low middle high = (pair low).0 ∷ (pair low).1 ∷ (pair middle).0 ∷ (pair middle).1 ∷ (pair high).0 ∷ (pair high).1 ∷ []

three_bits : (x : ℕ) → x % 2 + 2 * (x / 2 % 2 + 2 * (x / 2 / 2 % 2 + 2 * 0)) ≡ x % 8
three_bits x = omega arith

eighth : (x : ℕ) → x / 2 / 2 / 2 ≡ x / 8
eighth x = omega arith

sixty_fourth : (x : ℕ) → x / 8 / 8 ≡ x / 64
sixty_fourth x = omega arith

-- the three words of a symbol
pub words_of : (c : ℕ) → packed 3 3 (bits 9 c) ≡ c % 8 ∷ c / 8 % 8 ∷ c / 64 % 8 ∷ []
unfolding packed bits number
words_of c = rw (three_bits c, eighth c, three_bits (c / 8), eighth (c / 8), sixty_fourth c, three_bits (c / 64))

pub group_is : (pair : ℕ → ℤ × ℤ) (c : ℕ) → line_group pair c ≡ six_of pair (c % 8) (c / 8 % 8) (c / 64 % 8)
unfolding line_group pairs
group_is pair c = ap (pairs pair) (words_of c)

pub length_group : (pair : ℕ → ℤ × ℤ) (c : ℕ) → length (line_group pair c) ≡ 6
length_group pair c = ap length (group_is pair c)

pair_same : (p q : ℤ × ℤ) → p.0 ≡ q.0 → p.1 ≡ q.1 → p ≡ q
pair_same (a, b) (x, y) e f = cc

-- different symbols have different groups
pub group_same : (pair : ℕ → ℤ × ℤ) → Distinct pair → (c d : ℕ) → c < 512 → d < 512 → line_group pair c ≡ line_group pair d → c ≡ d
group_same pair distinct c d h k e =
    let six : six_of pair (c % 8) (c / 8 % 8) (c / 64 % 8) ≡ six_of pair (d % 8) (d / 8 % 8) (d / 64 % 8) = sym (group_is pair c) ∙ e ∙ group_is pair d in
    let low : c % 8 ≡ d % 8 = distinct _ _ (omega arith) (omega arith) (pair_same _ _ (cc) (cc)) in
    let middle : c / 8 % 8 ≡ d / 8 % 8 = distinct _ _ (omega arith) (omega arith) (pair_same _ _ (cc) (cc)) in
    let high : c / 64 % 8 ≡ d / 64 % 8 = distinct _ _ (omega arith) (omega arith) (pair_same _ _ (cc) (cc)) in
    omega arith

six_list : (six : List ℤ) → length six ≡ 6 → get_or six 0 (pos 0) ∷ get_or six 1 (pos 0) ∷ get_or six 2 (pos 0) ∷ get_or six 3 (pos 0) ∷ get_or six 4 (pos 0) ∷ get_or six 5 (pos 0) ∷ [] ≡ six
six_list [] h = absurd (omega arith)
six_list (a ∷ []) h = absurd (omega arith)
six_list (a ∷ b ∷ []) h = absurd (omega arith)
six_list (a ∷ b ∷ c ∷ []) h = absurd (omega arith)
six_list (a ∷ b ∷ c ∷ d ∷ []) h = absurd (omega arith)
six_list (a ∷ b ∷ c ∷ d ∷ e ∷ []) h = absurd (omega arith)
six_list (a ∷ b ∷ c ∷ d ∷ e ∷ f ∷ []) h = refl
six_list (a ∷ b ∷ c ∷ d ∷ e ∷ f ∷ x ∷ xs) h = absurd (omega arith)

-- six writes over six
pub six_set : (six : List ℤ) (a b c d e f : ℤ) → length six ≡ 6 → set (set (set (set (set (set six 0 a) 1 b) 2 c) 3 d) 4 e) 5 f ≡ a ∷ b ∷ c ∷ d ∷ e ∷ f ∷ []
six_set six a b c d e f h = ap (λ l. set (set (set (set (set (set l 0 a) 1 b) 2 c) 3 d) 4 e) 5 f) (sym (six_list six h))

-- three words below 8 make a symbol, whose group has their pairs
pub group_of_words : (pair : ℕ → ℤ × ℤ) (low middle high : ℕ) → low < 8 → middle < 8 → high < 8 → line_group pair (low + 8 * middle + 64 * high) ≡ six_of pair low middle high
group_of_words pair low middle high h k l =
    let c = low + 8 * middle + 64 * high in
    let first : (low + 8 * middle + 64 * high) % 8 ≡ low = omega arith in
    let above : (low + 8 * middle + 64 * high) / 8 ≡ middle + 8 * high = omega arith in
    let second : (low + 8 * middle + 64 * high) / 8 % 8 ≡ middle = ap (λ x. x % 8) above ∙ lower middle high k in
    let top : (low + 8 * middle + 64 * high) / 64 ≡ high + 8 * 0 = omega arith in
    let third : (low + 8 * middle + 64 * high) / 64 % 8 ≡ high = ap (λ x. x % 8) top ∙ lower high 0 l in
    group_is pair c ∙ rw (first, second, third)
  where
    lower : (m n : ℕ) → m < 8 → (m + 8 * n) % 8 ≡ m
    lower m n h = omega arith

-- pair number i of a group
abbrev pub pair_at : List ℤ → ℕ → ℤ × ℤ
pair_at six i = (get_or six (2 * i) (pos 0), get_or six (2 * i + 1) (pos 0))

-- three words read from the pairs of a group
pub words_read : (pair : ℕ → ℤ × ℤ) (six : List ℤ) (low middle high : ℕ) → length six ≡ 6 → low < 8 → middle < 8 → high < 8
    → pair low ≡ pair_at six 0 → pair middle ≡ pair_at six 1 → pair high ≡ pair_at six 2 → line_group pair (low + 8 * middle + 64 * high) ≡ six
words_read pair six low middle high n h k l e f g = group_of_words pair low middle high h k l ∙ rw (e, f, g) (six_list six n)

-- a symbol's group has the pairs of its words
pub words_written : (pair : ℕ → ℤ × ℤ) (six : List ℤ) (c : ℕ) → line_group pair c ≡ six
    → (pair (c % 8) ≡ pair_at six 0) × (pair (c / 8 % 8) ≡ pair_at six 1) × (pair (c / 64 % 8) ≡ pair_at six 2)
words_written pair six c e = let f = sym (group_is pair c) ∙ e in (
  pair_same _ _ (ap (λ l. get_or l 0 (pos 0)) f) (ap (λ l. get_or l 1 (pos 0)) f),
  pair_same _ _ (ap (λ l. get_or l 2 (pos 0)) f) (ap (λ l. get_or l 3 (pos 0)) f),
  pair_same _ _ (ap (λ l. get_or l 4 (pos 0)) f) (ap (λ l. get_or l 5 (pos 0)) f),
)

-- a line symbol, as a program passes it on
abbrev pub passed : ℤ → ℤ
passed z = to_z w8 (of_z w8 z)

symbol_passed : (z : ℤ) → T (is_line_symbol z) → passed z ≡ z
symbol_passed (pos n) t = grind (arith, ints)
symbol_passed (negsuc n) t = grind (arith, ints)

-- both symbols of every pair are -1, 0 or 1
abbrev pub Ternary : (ℕ → ℤ × ℤ) → Type 0
Ternary pair = (w : ℕ) → w < 8 → LinePair (pair w)

pair_passed : (pair : ℕ → ℤ × ℤ) → Ternary pair → (w : ℕ) (p : ℤ × ℤ) → w < 8 → p ≡ pair w → (passed p.0 ≡ (pair w).0) × (passed p.1 ≡ (pair w).1)
pair_passed pair ternary w p h e = let t = ternary w h in (ap (λ q. passed q.0) e ∙ symbol_passed _ t.0, ap (λ q. passed q.1) e ∙ symbol_passed _ t.1)

-- three pairs as a program writes them
pub six_written : (pair : ℕ → ℤ × ℤ) → Ternary pair → (c : ℕ) (p q r : ℤ × ℤ) → c < 512 → p ≡ pair (c % 8 % 8) → q ≡ pair (c / 8 % 8 % 8) → r ≡ pair (c / 64 % 8)
    → passed p.0 ∷ passed p.1 ∷ passed q.0 ∷ passed q.1 ∷ passed r.0 ∷ passed r.1 ∷ [] ≡ line_group pair c
six_written pair ternary c p q r h e f g =
    let twice : c % 8 % 8 ≡ c % 8 = omega arith in
    let again : c / 8 % 8 % 8 ≡ c / 8 % 8 = omega arith in
    let low = pair_passed pair ternary (c % 8) p (omega arith) (e ∙ ap pair twice) in
    let middle = pair_passed pair ternary (c / 8 % 8) q (omega arith) (f ∙ ap pair again) in
    let high = pair_passed pair ternary (c / 64 % 8) r (omega arith) g in
    let six = group_is pair c in
    cc (low.0, low.1, middle.0, middle.1, high.0, high.1)

-- a pair as a program reads it from a group
abbrev pub passed_pair : List ℤ → ℕ → ℤ × ℤ
passed_pair six i = (passed (get_or six (2 * i) (pos 0)), passed (get_or six (2 * i + 1) (pos 0)))

pub passed_is : (six : List ℤ) (i : ℕ) → SFits w8 (get_or six (2 * i) (pos 0)) → SFits w8 (get_or six (2 * i + 1) (pos 0)) → passed_pair six i ≡ pair_at six i
passed_is six i h k = pair_same _ _ (to_z-of_z w8 _ h) (to_z-of_z w8 _ k)

-- scrambling twice is not scrambling
pub xor_back : (c m : ℕ) → bit_xor (bit_xor c m) m ≡ c
xor_back c m = xor_assoc c m m ∙ ap (bit_xor c) (xor_self m) ∙ xor_zero_r c

pub xor_same : (c d m : ℕ) → bit_xor c m ≡ bit_xor d m → c ≡ d
xor_same c d m e = sym (xor_back c m) ∙ ap (λ x. bit_xor x m) e ∙ xor_back d m

pub xor_small : (c m : ℕ) → c < 512 → m < 512 → bit_xor c m < 512
xor_small c m h k = xor_lt 9 c m h k

-- the group of a scrambled symbol tells the symbol
pub scrambled_same : (pair : ℕ → ℤ × ℤ) → Distinct pair → (c d m : ℕ) → c < 512 → d < 512 → m < 512 → line_group pair (bit_xor c m) ≡ line_group pair (bit_xor d m) → c ≡ d
scrambled_same pair distinct c d m h k b e = xor_same c d m (group_same pair distinct _ _ (xor_small c m h b) (xor_small d m k b) e)

-- the test of equal lists

at_both : (x y : ℤ) → le_z x y ≡ true → le_z y x ≡ true → x ≡ y
at_both x y e f = grind (arith, ints)

at_self : (x : ℤ) → le_z x x ≡ true
at_self x = grind (arith, ints)

pub same_equal : (a b : List ℤ) → same a b ≡ true → a ≡ b
same_equal [] [] e = refl
same_equal [] (y ∷ ys) e = let z : ◌≡◌ {A = ℕ} 0 1 = cc in absurd (omega arith)
same_equal (x ∷ xs) [] e = let z : ◌≡◌ {A = ℕ} 0 1 = cc in absurd (omega arith)
same_equal (x ∷ xs) (y ∷ ys) e =
    let outer = and_parts _ _ e in
    let inner = and_parts _ _ outer.0 in
    let head = at_both x y inner.0 inner.1 in
    let tail = same_equal xs ys outer.1 in
    cc

pub same_self : (a : List ℤ) → same a a ≡ true
same_self [] = refl
same_self (x ∷ xs) = rw (at_self x, same_self xs)

pub same_of_equal : (a b : List ℤ) → a ≡ b → same a b ≡ true
same_of_equal a b e = ap (same a) (sym e) ∙ same_self a

pub same_of_unequal : (a b : List ℤ) → (a ≡ b → ⊥) → same a b ≡ false
same_of_unequal a b n = false_from_ne_true _ (λ e. n (same_equal a b e))

-- a group differs from that of a symbol exactly when it is erased or carries another symbol
pub changed_test : (pair : ℕ → ℤ × ℤ) → Distinct pair → (mask : ℕ) (six : List ℤ) (symbol : Option ℕ) (v : ℕ) → mask < 512 → v < 512 → Descrambled pair mask six symbol
    → not (same six (line_group pair (bit_xor v mask))) ≡ not (option_eq eqb symbol (Some v))
changed_test pair distinct mask six None v m h erased = ap not (same_of_unequal _ _ (λ e. erased v h (sym e)))
changed_test pair distinct mask six (Some c) v m h (small, read) = go (eqb c v) refl
  where
    go : (t : Bool) → eqb c v ≡ t → not (same six (line_group pair (bit_xor v mask))) ≡ not t
    go true e = ap not (same_of_equal _ _ (sym read ∙ ap (λ c. line_group pair (bit_xor c mask)) (eqb-true c v e)))
    go false e = ap not (same_of_unequal _ _ (λ f. eqb-false c v e (scrambled_same pair distinct c v mask small h m (read ∙ f))))
