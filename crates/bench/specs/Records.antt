-- The octets of bench records. Assumes nothing.
use Rattle.std.specs.Prelude.{◌≡◌, ℕ, ◌/◌, ◌%◌, ◌<◌, List, [], ◌∷◌, ◌++◌, pos, ◌-ℤ◌}
use Rattle.std.specs.List.{flat_map}
use Rattle.bench.specs.declared.head.Kind.{Kind}
use Rattle.bench.specs.declared.head.Kind.TheVariants.{Send, Hit as Hits, Receive, Rest}
use Rattle.bench.specs.declared.head.Head.{Head}
use Rattle.bench.specs.declared.payload.Hit.{Hit}

-- a number of two octets, the octet of weight 1 first
abbrev pub two_octets : ℕ → List ℕ
two_octets n = n % 256 ∷ n / 256 ∷ []

abbrev pub kind_number : Kind → ℕ
kind_number Send = 1
kind_number Hits = 2
kind_number Receive = 3
kind_number Rest = 4

-- how many octets the payload of a kind has: 451 numbers of two octets; such a number and one octet; none
abbrev pub payload_length : Kind → ℕ
payload_length Send = 902
payload_length Hits = 3
payload_length Receive = 0
payload_length Rest = 0

-- a head names a kind, and has the length of that kind
pub record FitsKind (head : Head) (kind : Kind) : Type 0 where
  pub number : head.kind ≡ kind_number kind
  pub length : head.length ≡ payload_length kind

abbrev pub FitsNoKind : Head → Type 0
FitsNoKind head = (kind : Kind) → FitsKind head kind → ⊥

-- a send's payload: the management symbol, then the characters
abbrev pub send_payload : ℕ → List ℕ → List ℕ
send_payload symbol characters = two_octets symbol ++ flat_map two_octets characters

-- a hit's payload: a place of the line, then 0, 1 or 2 for the symbol -1, 0 or 1
pub record IsHit (payload : List ℕ) (hit : Hit) : Type 0 where
  pub written : ℕ
  pub octets : payload ≡ two_octets hit.place ++ written ∷ []
  pub inside : hit.place < 2700
  pub ternary : written < 3
  pub symbol : hit.symbol ≡ pos written -ℤ pos 1

abbrev pub IsNoHit : List ℕ → Type 0
IsNoHit payload = (hit : Hit) → IsHit payload hit → ⊥
