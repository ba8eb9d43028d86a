-- What is read of a file.
use Rattle.std.specs.Prelude.{◌≡◌, ◌⊎◌, ⊤, ℕ, ◌≤◌, length, List, [], ◌++◌, Option, Some, None}
use Rattle.rt_desk.specs.Desk.{Files}
use Rattle.rt_desk.specs.declared.reading.kind.FileKind.{FileKind}
use Rattle.rt_desk.specs.reading.Extent.{block_size, IsEnough}

-- the first bytes of a whole: all of it, or a block or more, behind which nothing can matter
abbrev pub ReadsSome : FileKind → Option (List ℕ) → List ℕ → Type 0
ReadsSome kind None bytes = ⊤
ReadsSome kind (Some whole) bytes = (rest : List ℕ) × (whole ≡ bytes ++ rest) × ((rest ≡ []) ⊎ ((block_size ≤ length bytes) × IsEnough kind bytes))

-- the first bytes of the file of this path, where the desk tells
abbrev pub Reads : FileKind → Option Files → List ℕ → List ℕ → Type 0
Reads kind None path bytes = ⊤
Reads kind (Some files) path bytes = (whole : List ℕ) × (files path ≡ Some whole) × ReadsSome kind (Some whole) bytes
