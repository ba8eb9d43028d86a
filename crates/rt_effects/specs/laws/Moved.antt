-- What a load or a store moves between a register and the bytes of its access.
use Rattle.std.specs.Prelude.{◌≡◌, ⊤, ℕ, ◌-◌, ◌%◌, ◌^◌, true, false, List, length, Option, Some, None}
use Rattle.rt_words.specs.Base.{base}
use Rattle.rt_exec.specs.mem.Access.{number}
use Rattle.rt_points.specs.declared.access.Access.{Access}

-- bytes of the same number, of which those of an access make the same number
abbrev pub AreAlike : Option Access → List ℕ → List ℕ → Type 0
AreAlike None old new = ⊤
AreAlike (Some a) old new = (length new ≡ length old) × (number a.bytes new (a.address - base) ≡ number a.bytes old (a.address - base))

-- the bytes of a store make the low bytes of a value
abbrev pub Holds : Option Access → List ℕ → ℕ → Type 0
Holds None ram value = ⊤
Holds (Some a) ram value = a.is_store ≡ true → number a.bytes ram (a.address - base) ≡ value % 256 ^ a.bytes
