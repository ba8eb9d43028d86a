-- What stands on a desk: the bytes of each file by its path, and what was said on the standard error. A desk may tell neither.
use Rattle.std.specs.Prelude.{◌≡◌, ◌≢◌, ⊤, ℕ, ◌<◌, length, List, [], ◌∷◌, ◌++◌, Bool, true, false, Option, Some, None}
use Rattle.rt_desk.specs.declared.desk.MakeFault.{MakeFault}
use Rattle.rt_desk.specs.declared.desk.MakeFault.TheVariants.{Refused, Device}

-- what stands at each path
abbrev pub Files : Type 0
Files = List ℕ → Option (List ℕ)

-- the file of this path was opened, and all its bytes are left to read
abbrev pub Opens : Option Files → List ℕ → Option (List ℕ) → Type 0
Opens None path left = ⊤
Opens (Some files) path left = (whole : List ℕ) × (files path ≡ Some whole) × (left ≡ Some whole)

-- the file of this path has these bytes, and all others are as they were
abbrev pub Makes : Option Files → List ℕ → List ℕ → Option Files → Type 0
Makes None path bytes new = ⊤
Makes (Some old) path bytes None = ⊥
Makes (Some old) path bytes (Some new) = (new path ≡ Some bytes) × ((other : List ℕ) → other ≢ path → new other ≡ old other)

-- whether two paths are those of one file: equal ones are, and on a desk that tells its files no others
abbrev pub IsOneFile : Option Files → List ℕ → List ℕ → Bool → Type 0
IsOneFile files path other false = path ≢ other
IsOneFile None path other true = ⊤
IsOneFile (Some files) path other true = path ≡ other

-- all files are as they were
abbrev pub Keeps : Option Files → Option Files → Type 0
Keeps None new = ⊤
Keeps (Some old) None = ⊥
Keeps (Some old) (Some new) = (path : List ℕ) → new path ≡ old path

-- a line was said, whose text may be unknown
abbrev pub Says : Option (List ℕ) → Option (List ℕ) → Option (List ℕ) → Type 0
Says None line new = ⊤
Says (Some old) line None = ⊥
Says (Some old) (Some line) (Some new) = new ≡ old ++ line ++ 10 ∷ []
Says (Some old) None (Some new) = (line : List ℕ) × (new ≡ old ++ line ++ 10 ∷ [])

-- a device that failed did so within the bytes
abbrev pub FailsWithin : List ℕ → MakeFault → Type 0
FailsWithin bytes (Refused reason) = ⊤
FailsWithin bytes (Device fault reason) = fault.written < length bytes
