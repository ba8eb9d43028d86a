-- Steps that stop at the first refusal.
use Rattle.std.specs.Prelude.{Bool, if◌then◌else◌, Result, Ok, Err}

infixl 10 ◌>>=◌
-- one step after another, up to the first refusal
abbrev pub ◌>>=◌ : {F A B : Type 0} → Result A F → (A → Result B F) → Result B F
(Ok x) >>= f = f x
(Err e) >>= f = Err e

-- f of what was found
abbrev pub mapped : {F A B : Type 0} → (A → B) → Result A F → Result B F
mapped f (Ok x) = Ok (f x)
mapped f (Err e) = Err e

-- x where the test holds
abbrev pub when : {F X : Type 0} → Bool → F → X → Result X F
when holds fault x = if holds then Ok x else Err fault
