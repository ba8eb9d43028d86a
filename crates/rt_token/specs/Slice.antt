-- A part of a source text.
use Rattle.std.specs.Prelude.{ℕ, List}

-- where its first byte lies in the whole text, counted from 0, and its bytes
pub record Slice : Type 0 where
  pub start : ℕ
  pub text : List ℕ
