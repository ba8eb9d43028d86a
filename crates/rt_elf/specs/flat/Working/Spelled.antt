-- The spelling of an image that has one.
use Rattle.std.specs.Prelude.{◌≡◌, ℕ, List}
use Rattle.rt_image.specs.ObjectFile.{ObjectValue, IsObject, spelling}

pub record Spells (bytes : List ℕ) (o : ObjectValue) : Type 0 where
  pub valid : IsObject o
  pub spelled : bytes ≡ spelling o
