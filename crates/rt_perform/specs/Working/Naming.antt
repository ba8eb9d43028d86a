-- A file whose entry may get a name from a path.
use Rattle.std.specs.Prelude.{◌≡◌, ⊤, ℕ, List, Option, Some, None}
use Rattle.rt_image.specs.ObjectFile.{ObjectValue, IsObject, spelling}

-- where there is a path, the file spells an object
abbrev pub MayBeNamed : Option (List ℕ) → List ℕ → Type 0
MayBeNamed None file = ⊤
MayBeNamed (Some path) file = (o : ObjectValue) × IsObject o × (file ≡ spelling o)
