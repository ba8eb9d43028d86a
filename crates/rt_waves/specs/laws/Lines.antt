-- Signals whose values the bytes of their lines tell.
use Rattle.std.specs.Prelude.{◌≡◌, ℕ, ◌^◌, ◌<◌, List, [], ◌∷◌, ◌++◌, All, Contains, codes}
use Rattle.std.specs.Str.Parse.{IsNumeral, digits_value}
use Rattle.rt_waves.specs.declared.signals.TaskWaves.{TaskWaves}
use Rattle.rt_waves.specs.Waves.{Waves}
use Rattle.rt_waves.specs.WavesText.{Wave, values}

-- the numbers of a task's signals, but for its mode
abbrev pub numbers : TaskWaves → List ℕ
numbers w = w.pc ∷ w.part ∷ w.c ∷ w.d ∷ w.out ∷ []

-- each is below 2^64
abbrev pub HasWords : TaskWaves → Type 0
HasWords w = All (λ n. n < 2 ^ 64) (numbers w)

-- a signal of some waves, whose numbers are below 2^64
abbrev pub IsSignal : Wave → Type 0
IsSignal s = (w : Waves) × All HasWords w.tasks × Contains (values w) s

-- a number in binary digits, between `b` and a blank (IEEE 1364-2005, 18.2)
abbrev pub IsBinary : ℕ → List ℕ → Type 0
IsBinary n text = (ds : List ℕ) × (text ≡ codes "b" ++ ds ++ codes " ") × IsNumeral 2 ds × (digits_value 2 ds ≡ n)
