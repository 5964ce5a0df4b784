-- A list asked for as an array, or else a fault. Assumes nothing.
use Rattle.std.proofs.Common.{◌≡◌, ℕ, List, length, Option, Result, Some, None, Err, MatchOption, ap, ◌∙◌, subst}
use Rattle.std.specs.Array.{IsWholeChunk}
use Rattle.std.specs.Option.{ok_or}

-- the fault for none is the one told
pub none_told : {Lent Fault : Type 0} {asked : Option Lent} {fault told : Fault} → asked ≡ None → Err told ≡ ok_or asked fault → fault ≡ told
none_told {Lent} {Fault} {asked} {fault} {told} e h = let same : ◌≡◌ {A = Result Lent Fault} (Err told) (Err fault) = h ∙ ap (λ r. ok_or r fault) e in cc

-- over what is lent, and its items
module _ {A Lent : Type 0} (items : Lent → List A) where
  pub array_found : {n : ℕ} {xs : List A} {asked : Option Lent} {y : Lent} → MatchOption asked (length xs ≡ n → ⊥) (λ y. IsWholeChunk xs (items y) n)
      → asked ≡ Some y → (length xs ≡ n) × (items y ≡ xs)
  array_found {n} {xs} cases e = let whole = subst (λ r. MatchOption r (length xs ≡ n → ⊥) (λ y. IsWholeChunk xs (items y) n)) e cases in (whole.long, whole.same)

  pub array_refused : {n : ℕ} (xs : List A) {asked : Option Lent} {Fault : Type 0} {fault told : Fault} → MatchOption asked (length xs ≡ n → ⊥) (λ y. IsWholeChunk xs (items y) n)
      → asked ≡ None → Err told ≡ ok_or asked fault → (length xs ≡ n → ⊥) × (fault ≡ told)
  array_refused {n} xs cases e h = (subst (λ r. MatchOption r (length xs ≡ n → ⊥) (λ y. IsWholeChunk xs (items y) n)) e cases, none_told e h)
