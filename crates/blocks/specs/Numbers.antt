-- Characters as values: the number that each stands for. Assumes nothing.
use Rattle.std.specs.Prelude.{◌≡◌, ℕ, ◌+◌, List, Result, MatchResult}
use Rattle.blocks.specs.Characters as numbers
use Rattle.blocks.specs.Characters.{FirstNoCharacter}
use Rattle.blocks.specs.declared.character.Control.{Control}
use Rattle.blocks.specs.declared.character.Control.TheVariants.{NotReady, Error, Ready, LowPower}
use Rattle.blocks.specs.declared.character.Character.{Character}
use Rattle.blocks.specs.declared.character.NoCharacter.{NoCharacter}
use Rattle.blocks.specs.declared.character.NoControl.{NoControl}
use Rattle.blocks.specs.declared.faults.BlockFault.{BlockFault}

-- the three-bit code of a control
abbrev pub code_of : Control → ℕ
code_of NotReady = 0
code_of Error = 1
code_of Ready = 2
code_of LowPower = 5

-- the number that stands for a character
abbrev pub number_of : Character → ℕ
number_of (Character.Data octet) = octet
number_of (Character.Control control) = 256 + code_of control

-- the result is the control with this code, or an error where no control has it
abbrev pub ControlOf : ℕ → Result Control NoControl → Type 0
ControlOf code r = MatchResult r (λ control. code_of control ≡ code) (λ _. numbers.Control (256 + code) → ⊥)

-- the result is the character with this number, or an error where no character has it
abbrev pub CharacterOf : ℕ → Result Character NoCharacter → Type 0
CharacterOf n r = MatchResult r (λ c. (number_of c ≡ n) × numbers.Character n) (λ e. (e.0 ≡ n) × (numbers.Character n → ⊥))

-- a fault that names the first number that is no character
abbrev pub NamesNoCharacter : List ℕ → BlockFault → Type 0
NamesNoCharacter ns fault = (place : ℕ) × FirstNoCharacter ns place × (fault ≡ BlockFault.NoCharacter place)
