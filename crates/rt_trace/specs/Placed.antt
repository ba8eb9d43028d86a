-- A text that was put at a place of a row of bytes.
use Rattle.std.specs.Prelude.{◌≡◌, ℕ, ◌+◌, List, ◌++◌, length, take}

-- after the first `at` bytes of `old`, which stay, `new` has the text, up to `end`; what follows there may be anything
pub record Placed (old new : List ℕ) (at : ℕ) (text : List ℕ) (end : ℕ) : Type 0 where
  pub bytes : take end new ≡ take at old ++ text
  pub moved : end ≡ at + length text
  pub same : length new ≡ length old
