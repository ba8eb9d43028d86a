-- What is seen of a sink.
use Rattle.std.specs.Prelude.{ℕ, List, Bool, Option}

-- whether it has failed, and the bytes that it has taken so far, or None where it doesn't tell them
pub record Seen : Type 0 where
  pub failed : Bool
  pub contents : Option (List ℕ)
