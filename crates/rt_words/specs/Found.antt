-- Steps that stop at the first that finds nothing.
use Rattle.std.specs.Prelude.{◌≡◌, Bool, Option, Some, None, if◌then◌else◌}
use Rattle.std.specs.Option.{option_map, option_and_then}

infixl 10 ◌>>=◌
-- one step after another, up to the first that finds nothing
abbrev pub ◌>>=◌ : {A B : Type 0} → Option A → (A → Option B) → Option B
x >>= f = option_and_then f x

-- x where the test holds
abbrev pub when : {X : Type 0} → Bool → X → Option X
when holds x = if holds then Some x else None

-- what a function found, seen by view, is what reading finds
abbrev pub Finds : {X Y : Type 0} → (X → Y) → Option X → Option Y → Type 0
Finds view found read = read ≡ option_map view found
