-- Listing, ascending, the numbers that pass a test. Assumes nothing.
use Rattle.std.proofs.Common.{◌≡◌, ℕ, ◌+◌, ◌-◌, ◌≤◌, Bool, true, false, cond, [], ◌∷◌, ◌++◌, length, filter, refl, sym, ap, ◌∙◌, append-nil, zero-add, arith, length-append}
use Rattle.std.proofs.lemmas.List.{map-id}
use Rattle.std.proofs.lemmas.List.Elements.{filter-append}
use Rattle.std.proofs.lemmas.List.FromFn.{filter_of_map_range_with_len_more}
use Rattle.codec.specs.Demapping.{upward}
use Rattle.codec.proofs.Apart.{upward_join}

pub upward_none : upward 0 0 ≡ []
unfolding upward
upward_none = refl

kept_push : (t : ℕ → Bool) (k : ℕ) → filter t (upward 0 (k + 1)) ≡ filter t (upward 0 k) ++ cond (t k) (k ∷ []) []
unfolding upward
kept_push t k =
    ap (filter t) (sym (map-id (upward 0 (k + 1)))) ∙ filter_of_map_range_with_len_more t (λ i. i) 0 k k (zero-add k)
    ∙ ap (λ ks. filter t ks ++ cond (t k) (k ∷ []) []) (map-id (upward 0 k))

pub kept_yes : (t : ℕ → Bool) (k : ℕ) → t k ≡ true → filter t (upward 0 (k + 1)) ≡ filter t (upward 0 k) ++ (k ∷ [])
kept_yes t k e = kept_push t k ∙ ap (λ b. filter t (upward 0 k) ++ cond b (k ∷ []) []) e

pub kept_no : (t : ℕ → Bool) (k : ℕ) → t k ≡ false → filter t (upward 0 (k + 1)) ≡ filter t (upward 0 k)
kept_no t k e = kept_push t k ∙ ap (λ b. filter t (upward 0 k) ++ cond b (k ∷ []) []) e ∙ append-nil _

-- fewer numbers, fewer that pass
pub kept_grows : (t : ℕ → Bool) (k n : ℕ) → k ≤ n → length (filter t (upward 0 k)) ≤ length (filter t (upward 0 n))
kept_grows t k n h =
    let split : n ≡ k + (n - k) = omega arith in
    let all : filter t (upward 0 n) ≡ filter t (upward 0 k) ++ filter t (upward (0 + k) (n - k)) =
    ap (λ m. filter t (upward 0 m)) split ∙ ap (filter t) (upward_join 0 k (n - k)) ∙ filter-append t (upward 0 k) (upward (0 + k) (n - k)) in
    omega (arith, ap length all, length-append (filter t (upward 0 k)) (filter t (upward (0 + k) (n - k))))
