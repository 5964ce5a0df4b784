-- What a repair comes to. Assumes nothing.
use Rattle.std.proofs.Common.{◌≡◌, ℕ, ◌<◌, ◌≤◌, List, sym, ap, subst, arith}
use Rattle.arithmetic.specs.Laws.{Operations, Lawful}
use Rattle.code.specs.Words.{distance, reach, Word, Codeword}
use Rattle.code.specs.Outcomes.{Repaired, Astray}
use Rattle.code.proofs.Distances.{distance_self}
use Rattle.code.proofs.Completion.{uniquely}

module _ {F : Operations} (laws : Lawful F) where
  pub repaired_same : (w : List ℕ) → Codeword F w → Repaired F w w 0
  repaired_same w h = record { word = h.word; codeword = h; count = sym (distance_self w); near = omega arith; only = λ v hv near. sym (uniquely laws w v h hv (omega arith)) }

  module _ (w u : List ℕ) (hw : Word w) (only : (v : List ℕ) → Codeword F v → distance w v ≤ reach → v ≡ u) where
    pub astray_far : (n : ℕ) → n ≡ distance w u → reach < n → Astray F w
    astray_far n e far = record { word = hw; none = λ v hv near. let same : distance w v ≡ distance w u = ap (distance w) (only v hv near) in omega arith }

    pub astray_not : (Codeword F u → ⊥) → Astray F w
    astray_not never = record { word = hw; none = λ v hv near. never (subst (Codeword F) (only v hv near) hv) }

    pub repaired_near : (n : ℕ) → n ≡ distance w u → n ≤ reach → Codeword F u → Repaired F w u n
    repaired_near n e h code = record { word = hw; codeword = code; count = e; near = h; only = only }
