-- Blocks: the bits that ten characters make, field by field, and the first invalid field of a block. Assumes nothing.
use Rattle.std.specs.Prelude.{◌≡◌, ℕ, ◌+◌, ◌-◌, ◌*◌, ◌<◌, ◌≤◌, Bool, true, cond, List, [], ◌∷◌, ◌++◌, reverse, length, take, drop, Some, None, Option, ◌≢◌, slice_index}
use Rattle.refusal.specs.Refusals.{refusal}
use Rattle.refusal.specs.declared.kinds.Layer.{Layer}
use Rattle.refusal.specs.declared.kinds.Refusal.{Refusal}
use Rattle.blocks.specs.Bits.{bits, number, packed, unpacked}
use Rattle.blocks.specs.Characters.{Control, Characters, FirstNoCharacter, is_control}

-- 16 where another control follows, and 0 otherwise
abbrev pub marked : Option ℕ → ℕ
marked None = 0
marked (Some p) = 16

abbrev pub led : ℕ → ℕ → Option ℕ → Option ℕ
led n c later = cond (is_control c) (Some (n + marked later)) later

-- The pointer for characters of which the first stands at octet n: the position of
-- their first control, with 16 on top where another control follows that one.
-- Characters without a control have none.
unfoldable pub pointer : ℕ → List ℕ → Option ℕ
pointer n [] = None
pointer n (c ∷ cs) = led n c (pointer (n + 1) cs)

abbrev pub pointer_bits : Option ℕ → List ℕ
pointer_bits None = []
pointer_bits (Some p) = bits 5 p

-- a control's three-bit code goes leftmost bit first, a data octet weight 1 first
abbrev pub own_bits : ℕ → List ℕ
own_bits c = cond (is_control c) (reverse (bits 3 (c - 256))) (bits 8 c)

-- The fields from octet n on. A pointer is due at the start and after each control,
-- and stands there if a control still follows.
unfoldable pub fields : Bool → ℕ → List ℕ → List ℕ
fields due n [] = []
fields due n (c ∷ cs) = cond due (pointer_bits (pointer n (c ∷ cs))) [] ++ (own_bits c ++ fields (is_control c) (n + 1) cs)

abbrev pub header : Option ℕ → ℕ
header None = 0
header (Some p) = 1

-- the block that ten characters make: its header octet, then the payload as ten octets
unfoldable pub block_of : List ℕ → List ℕ
block_of cs = header (pointer 0 cs) ∷ packed 8 10 (fields true 0 cs)

-- ten characters are encoded by the block that they make
pub record Encodes (block cs : List ℕ) : Type 0 where
  pub ten : length cs ≡ 10
  pub characters : Characters cs
  pub makes : block ≡ block_of cs

abbrev pub EncodesNone : List ℕ → Type 0
EncodesNone block = (cs : List ℕ) → Encodes block cs → ⊥

abbrev pub EncodesOnly : List ℕ → List ℕ → Type 0
EncodesOnly block cs = Encodes block cs × ((others : List ℕ) → Encodes block others → others ≡ cs)

-- Reading in field order, from bits that begin with the pointer at octet n.

-- the position in that pointer, weights 1 to 8, and its bit of weight 16
abbrev pub position : List ℕ → ℕ
position bs = number (take 4 bs)

abbrev pub more : List ℕ → ℕ
more bs = slice_index bs 4

-- the position is no earlier than n and no later than 9, and where it is 9 no further control is announced
pub record ValidPointer (n : ℕ) (bs : List ℕ) : Type 0 where
  pub ahead : n ≤ position bs
  pub inside : position bs ≤ 9
  pub last : position bs ≡ 9 → more bs ≢ 1

-- what follows the pointer and the data octets before the control: the code, and the fields after it
abbrev pub from_code : ℕ → List ℕ → List ℕ
from_code n bs = drop (5 + 8 * (position bs - n)) bs

-- the character that the code stands for
abbrev pub coded : ℕ → List ℕ → ℕ
coded n bs = 256 + number (reverse (take 3 (from_code n bs)))

abbrev pub invalid_pointer : ℕ → Refusal
invalid_pointer octet = refusal 8 Layer.Block octet

abbrev pub reserved_code : ℕ → Refusal
reserved_code octet = refusal 9 Layer.Block octet

-- the first invalid field, as the refusal that it causes
pub data InvalidFrom : ℕ → List ℕ → Refusal → Type 0 where
  pointer_invalid : {n : ℕ} {bs : List ℕ} → (ValidPointer n bs → ⊥) → InvalidFrom n bs (invalid_pointer n)
  code_invalid : {n : ℕ} {bs : List ℕ} → ValidPointer n bs → (Control (coded n bs) → ⊥) → InvalidFrom n bs (reserved_code (position bs))
  later : {n : ℕ} {bs : List ℕ} {why : Refusal} → ValidPointer n bs → Control (coded n bs) → more bs ≡ 1 → InvalidFrom (position bs + 1) (drop 3 (from_code n bs)) why → InvalidFrom n bs why

-- a header octet that is neither 0 nor 1 is told as an invalid pointer at octet 0
pub data InvalidField (block : List ℕ) : Refusal → Type 0 where
  header_invalid : 1 < slice_index block 0 → InvalidField block (invalid_pointer 0)
  field_invalid : {why : Refusal} → slice_index block 0 ≡ 1 → InvalidFrom 0 (unpacked 8 (drop 1 block)) why → InvalidField block why

-- why writing is refused
pub data WriteRefused (cs block : List ℕ) : Refusal → Type 0 where
  input_length : (length cs ≢ 10) → WriteRefused cs block (refusal 3 Layer.Block 0)
  output_length : length cs ≡ 10 → (length block ≢ 11) → WriteRefused cs block (refusal 3 Layer.Block 1)
  no_character : {k : ℕ} → length cs ≡ 10 → length block ≡ 11 → FirstNoCharacter cs k → WriteRefused cs block (refusal 5 Layer.Block k)

-- why reading is refused
pub data ReadRefused (block cs : List ℕ) : Refusal → Type 0 where
  input_length : (length block ≢ 11) → ReadRefused block cs (refusal 3 Layer.Block 0)
  output_length : length block ≡ 11 → (length cs ≢ 10) → ReadRefused block cs (refusal 3 Layer.Block 1)
  invalid_field : {why : Refusal} → length block ≡ 11 → length cs ≡ 10 → InvalidField block why → EncodesNone block → ReadRefused block cs why
