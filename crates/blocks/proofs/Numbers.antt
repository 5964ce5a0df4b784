-- The numbers of a list of characters. Assumes nothing.
use Rattle.std.proofs.Common.{◌≡◌, ℕ, List, map, get_or}
use Rattle.std.proofs.Math.ListN.{get_or-map}
use Rattle.blocks.specs.Numbers.{number_of}
use Rattle.blocks.specs.declared.character.Character.{Character}

pub number_at : (cs : List Character) (k : ℕ) → get_or (map number_of cs) k 0 ≡ number_of (get_or cs k (Character.Data 0))
number_at cs k = get_or-map number_of cs k (Character.Data 0)
