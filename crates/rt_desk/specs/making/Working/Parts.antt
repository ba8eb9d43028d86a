-- The steps in which a file is made: what they do to the files, and what a crash within them leaves.
use Rattle.std.specs.Prelude.{◌≡◌, ◌≢◌, ◌⊎◌, ◌<◌, ◌≤◌, ◌+◌, String, List, [], ℕ, ◌++◌, true, Option, Some, None, Result, Ok, Err, string_bytes}
use Rattle.std.specs.declared.alloc.Global.{Global}
use Rattle.rt_desk.specs.Desk.{Files}
use Rattle.rt_desk.specs.declared.desk.MakeFault.{MakeFault}
use Rattle.rt_desk.specs.declared.desk.MakeFault.TheVariants.{Refused}
use Rattle.rt_desk.specs.declared.reason.Reason.{Reason}
use Rattle.rt_desk.specs.declared.reason.Reason.TheVariants.{Memory}
use Rattle.rt_desk.specs.making.Disk.{Standing, Same, SameBut, Creates}
use Rattle.rt_desk.specs.making.Making.{AreTaken}

-- an empty file is made beside one, or each name is taken
abbrev pub CreatesPart : List ℕ → Result (Option (String Global)) Reason → Files → Files → Type 0
CreatesPart path (Ok (Some part)) old new = Creates (string_bytes part) (Ok true) old new
CreatesPart path (Ok None) old new = AreTaken path old × Same old new
CreatesPart path (Err reason) old new = Same old new

abbrev pub TearsPart : Result (Option (String Global)) Reason → Files → Files → Type 0
TearsPart (Ok (Some part)) = SameBut (string_bytes part)
TearsPart (Ok None) = Same
TearsPart (Err reason) = Same

-- all of the bytes are added to a part
abbrev pub Fills : List ℕ → List ℕ → Result (Unit {0}) MakeFault → Files → Files → Type 0
Fills part bytes (Ok done) old new = SameBut part old new × ((whole : List ℕ) → old part ≡ Some whole → new part ≡ Some (whole ++ bytes))
Fills part bytes (Err fault) old new = SameBut part old new

-- a part takes the place of a file
abbrev pub PutsPart : List ℕ → List ℕ → List ℕ → Result (Unit {0}) MakeFault → Files → Files → Type 0
PutsPart path bytes part (Ok done) old new = (new path ≡ Some bytes) × (new part ≡ None) × ((other : List ℕ) → other ≢ path → other ≢ part → new other ≡ old other)
PutsPart path bytes part (Err fault) old new = SameBut part old new

-- nothing is in the file of this path
abbrev pub IsEmpty : List ℕ → Standing → Type 0
IsEmpty part disk = disk.tells ≡ true → disk.files part ≡ Some []

-- a call has failed, or there is no memory
abbrev pub IsFailed : Standing → Standing → Reason → Type 0
IsFailed old new reason = old.tells ≡ true → (old.faults < new.faults) ⊎ (reason ≡ Memory)

-- where no two calls have failed, the part is gone
abbrev pub IsRemoved : Standing → Standing → Type 0
IsRemoved old new = old.tells ≡ true → new.faults ≤ old.faults + 1 → Same old.files new.files

-- why a part isn't put in the place of a file
abbrev pub HasCause : List ℕ → Standing → Standing → MakeFault → Type 0
HasCause path old new fault = old.tells ≡ true → (old.faults < new.faults) ⊎ (fault ≡ Refused Memory) ⊎ AreTaken path old.files
