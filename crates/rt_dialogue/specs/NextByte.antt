-- The next byte of an input.
use Rattle.std.specs.Prelude.{◌≡◌, ◌⊎◌, ℕ, List, [], ◌∷◌, Option, Some, None}
use Rattle.rt_opening.specs.declared.fault.SimFault.TheVariants.{Memory}
use Rattle.rt_dialogue.specs.declared.fault.DebugFault.{DebugFault}
use Rattle.rt_dialogue.specs.declared.fault.DebugFault.TheVariants.{Sim, Input}

-- a fault of the input
abbrev pub IsOfInput : DebugFault → Type 0
IsOfInput fault = (fault ≡ Input) ⊎ (fault ≡ Sim Memory)

-- the first of these bytes, and those behind it are left; or there is none
abbrev pub IsNextByte : List ℕ → Option ℕ → Option (List ℕ) → Type 0
IsNextByte bytes (Some b) left = (rest : List ℕ) × (bytes ≡ b ∷ rest) × (left ≡ Some rest)
IsNextByte bytes None left = (bytes ≡ []) × (left ≡ Some [])
