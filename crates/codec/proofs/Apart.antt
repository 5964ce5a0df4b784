-- Line frames group by group, and the groups in which two lines differ. Assumes nothing.
use Rattle.std.proofs.Common.{◌≡◌, ℕ, zero, suc, ◌+◌, ◌*◌, ◌<◌, ◌≤◌, Bool, true, false, cond, not, ◌||◌, eqb, List, [], ◌∷◌, ◌++◌, length, get_or, take, drop, ℤ, filter, sym, refl, ap, ◌∙◌, append_assoc, append-nil, add-zero, zero-add, arith, length-append}
use lib.Bits.{bit_xor}
use Rattle.std.proofs.lemmas.List.{take_at, drop_at, drop-drop, drop_all}
use Rattle.code.specs.Words.{distance}
use Rattle.code.proofs.Distances.{count_more}
use Rattle.codec.specs.Lines.{line_group, line_from, same, group, unequal, differing}
use Rattle.codec.specs.Demapping.{upward}
use Rattle.codec.proofs.Groups.{length_group}

-- line frames

pub length_from : (pair : ℕ → ℤ × ℤ) (mask : ℕ → ℕ) (j : ℕ) (word : List ℕ) → length (line_from pair mask j word) ≡ 6 * length word
unfolding line_from
length_from pair mask j [] = refl
length_from pair mask j (c ∷ word) =
    let g = line_group pair (bit_xor c (mask j)) in
    length-append g (line_from pair mask (j + 1) word) ∙ omega (arith, length_group pair (bit_xor c (mask j)), length_from pair mask (j + 1) word)

-- one more symbol adds its group
pub from_push : (pair : ℕ → ℤ × ℤ) (mask : ℕ → ℕ) (j : ℕ) (word : List ℕ) (c : ℕ)
    → line_from pair mask j (word ++ (c ∷ [])) ≡ line_from pair mask j word ++ line_group pair (bit_xor c (mask (j + length word)))
unfolding line_from
from_push pair mask j [] c = append-nil _ ∙ ap (λ k. line_group pair (bit_xor c (mask k))) (sym (add-zero j))
from_push pair mask j (d ∷ word) c =
    let at : j + 1 + length word ≡ j + suc (length word) = omega arith in
    ap (λ l. line_group pair (bit_xor d (mask j)) ++ l) (from_push pair mask (j + 1) word c ∙ ap (λ k. line_from pair mask (j + 1) word ++ line_group pair (bit_xor c (mask k))) at)
    ∙ sym (append_assoc (line_group pair (bit_xor d (mask j))) (line_from pair mask (j + 1) word) _)

pub group_from : (pair : ℕ → ℤ × ℤ) (mask : ℕ → ℕ) (j : ℕ) (word : List ℕ) (k : ℕ) → k < length word
    → group (line_from pair mask j word) k ≡ line_group pair (bit_xor (get_or word k 0) (mask (j + k)))
unfolding line_from
group_from pair mask j [] k h = absurd (omega arith)
group_from pair mask j (c ∷ word) zero h =
    take_at (line_group pair (bit_xor c (mask j))) (line_from pair mask (j + 1) word) 6 (length_group pair (bit_xor c (mask j)))
    ∙ ap (λ k. line_group pair (bit_xor c (mask k))) (sym (add-zero j))
group_from pair mask j (c ∷ word) (suc k) h =
    let g = line_group pair (bit_xor c (mask j)) in
    let far : 6 * suc k ≡ 6 + 6 * k = omega arith in
    let at : j + 1 + k ≡ j + suc k = omega arith in
    ap (λ n. take 6 (drop n (g ++ line_from pair mask (j + 1) word))) far
    ∙ ap (take 6) (sym (drop-drop (6 * k) 6 (g ++ line_from pair mask (j + 1) word)))
    ∙ ap (λ l. take 6 (drop (6 * k) l)) (drop_at g (line_from pair mask (j + 1) word) 6 (length_group pair (bit_xor c (mask j))))
    ∙ group_from pair mask (j + 1) word k (omega arith)
    ∙ ap (λ n. line_group pair (bit_xor (get_or word k 0) (mask n))) at

-- numbers upwards

pub upward_join : (k m n : ℕ) → upward k (m + n) ≡ upward k m ++ upward (k + m) n
unfolding upward
upward_join k zero n = ap (upward k) (zero-add n) ∙ ap (λ x. upward x n) (sym (add-zero k))
upward_join k (suc m) n =
    let long : suc m + n ≡ suc (m + n) = omega arith in
    let at : k + 1 + m ≡ k + suc m = omega arith in
    ap (upward k) long ∙ ap (λ l. k ∷ l) (upward_join (k + 1) m n ∙ ap (λ x. upward (k + 1) m ++ upward x n) at)

-- tests that agree on the numbers keep the same
pub kept_upward : (t u : ℕ → Bool) (k n : ℕ) → ((i : ℕ) → i < k + n → t i ≡ u i) → filter t (upward k n) ≡ filter u (upward k n)
unfolding upward
kept_upward t u k zero e = refl
kept_upward t u k (suc n) e =
    ap (λ b. cond b (k ∷ filter t (upward (k + 1) n)) (filter t (upward (k + 1) n))) (e k (omega arith))
    ∙ ap (λ ks. cond (u k) (k ∷ ks) ks) (kept_upward t u (k + 1) n (λ i h. e i (omega arith)))

-- what passes a test passes one of two others: so many do at most
pub kept_cover : (t u v : ℕ → Bool) (k n : ℕ) → ((i : ℕ) → i < k + n → t i ≡ true → u i || v i ≡ true)
    → length (filter t (upward k n)) ≤ length (filter u (upward k n)) + length (filter v (upward k n))
unfolding upward
kept_cover t u v k zero c = omega arith
kept_cover t u v k (suc n) c = go (t k) (u k) (v k) (c k (omega arith)) (kept_cover t u v (k + 1) n (λ i h. c i (omega arith)))
  where
    go : (x y z : Bool) → (x ≡ true → y || z ≡ true) → length (filter t (upward (k + 1) n)) ≤ length (filter u (upward (k + 1) n)) + length (filter v (upward (k + 1) n))
        → length (cond x (k ∷ filter t (upward (k + 1) n)) (filter t (upward (k + 1) n))) ≤ length (cond y (k ∷ filter u (upward (k + 1) n)) (filter u (upward (k + 1) n))) + length (cond z (k ∷ filter v (upward (k + 1) n)) (filter v (upward (k + 1) n)))
    go true true true h r = omega arith
    go true true false h r = omega arith
    go true false true h r = omega arith
    go true false false h r = let z : false ≡ true = h refl in let o : ◌≡◌ {A = ℕ} 0 1 = cc in absurd (omega arith)
    go false true true h r = omega arith
    go false true false h r = omega arith
    go false false true h r = omega arith
    go false false false h r = omega arith

pub kept_none : (k n : ℕ) → filter (λ _. false) (upward k n) ≡ []
unfolding upward
kept_none k zero = refl
kept_none k (suc n) = kept_none (k + 1) n

-- differing groups

abbrev pub group_differs : List ℤ → List ℤ → ℕ → Bool
group_differs a b i = not (same (group a i) (group b i))

unequal_kept : (k n : ℕ) (a b : List ℤ) → unequal k n (drop (6 * k) a) (drop (6 * k) b) ≡ filter (group_differs a b) (upward k n)
unfolding unequal upward
unequal_kept k zero a b = refl
unequal_kept k (suc n) a b =
    let far : 6 * k + 6 ≡ 6 * (k + 1) = omega arith in
    ap (λ l. cond (same (group a k) (group b k)) [] (k ∷ []) ++ unequal (k + 1) n l (drop 6 (drop (6 * k) b))) (drop-drop 6 (6 * k) a ∙ ap (λ m. drop m a) far)
    ∙ ap (λ l. cond (same (group a k) (group b k)) [] (k ∷ []) ++ unequal (k + 1) n (drop (6 * (k + 1)) a) l) (drop-drop 6 (6 * k) b ∙ ap (λ m. drop m b) far)
    ∙ ap (λ l. cond (same (group a k) (group b k)) [] (k ∷ []) ++ l) (unequal_kept (k + 1) n a b)
    ∙ go (same (group a k) (group b k)) (filter (group_differs a b) (upward (k + 1) n))
  where
    go : (t : Bool) (l : List ℕ) → cond t [] (k ∷ []) ++ l ≡ cond (not t) (k ∷ l) l
    go true l = refl
    go false l = refl

pub differing_kept : (a b : List ℤ) → differing a b ≡ filter (group_differs a b) (upward 0 450)
unfolding differing
differing_kept a b = unequal_kept 0 450 a b

-- differing symbols

abbrev pub symbol_differs : List ℕ → List ℕ → ℕ → Bool
symbol_differs u v i = not (eqb (get_or u i 0) (get_or v i 0))

distance_from : (u v : List ℕ) (k n : ℕ) → k + n ≡ length u → length u ≡ length v → distance (drop k u) (drop k v) ≡ length (filter (symbol_differs u v) (upward k n))
unfolding distance upward
distance_from u v k zero e l = ap (λ w. distance w (drop k v)) (drop_all k u (omega arith)) ∙ ap length (drop_all k v (omega arith))
distance_from u v k (suc n) e l =
    count_more u v k (omega arith) l
    ∙ ap (λ m. cond (eqb (get_or u k 0) (get_or v k 0)) 0 1 + m) (distance_from u v (k + 1) n (omega arith) l)
    ∙ go (eqb (get_or u k 0) (get_or v k 0)) (filter (symbol_differs u v) (upward (k + 1) n))
  where
    go : (t : Bool) (ks : List ℕ) → cond t 0 1 + length ks ≡ length (cond (not t) (k ∷ ks) ks)
    go true ks = omega arith
    go false ks = omega arith

pub distance_kept : (u v : List ℕ) → length u ≡ length v → distance u v ≡ length (filter (symbol_differs u v) (upward 0 (length u)))
distance_kept u v l = distance_from u v 0 (length u) (omega arith) l
