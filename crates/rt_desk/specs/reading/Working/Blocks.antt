-- A step of reading an open file.
use Rattle.std.specs.Prelude.{◌≡◌, ℕ, List, ◌++◌, Bool, true, Option}
use Rattle.std.specs.Io.KnownBytes.{Consumes, IsAtEnd}

-- some more bytes were read; at the end none is left
abbrev pub Gains : Option (List ℕ) → Option (List ℕ) → List ℕ → List ℕ → Bool → Type 0
Gains before after old new is_end = (more : List ℕ) × (new ≡ old ++ more) × Consumes before after more × (is_end ≡ true → IsAtEnd after)
