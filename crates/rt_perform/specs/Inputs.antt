-- What a request reads before anything is done, and why it may not.
use Rattle.std.specs.Prelude.{◌≡◌, ◌≢◌, ◌⊎◌, ⊤, ℕ, List, [], true, Option, Some, None}
use Rattle.rt_desk.specs.Desk.{Files, IsOneFile}
use Rattle.rt_desk.specs.declared.reading.kind.FileKind.TheVariants.{Names}
use Rattle.rt_desk.specs.reading.Reads.{Reads}
use Rattle.rt_opening.specs.declared.fault.SimFault.TheVariants.{Memory}
use Rattle.rt_perform.specs.declared.program.ProgramFault.{ProgramFault}
use Rattle.rt_perform.specs.declared.program.ProgramFault.TheVariants.{File, IsRead, Sim}
use Rattle.rt_perform.specs.declared.request.Request.{Request}
use Rattle.rt_perform.specs.Paths.{first_path, first_kind, names_path, made_path}

-- what is read is not what is made
abbrev pub IsApart : Option (List ℕ) → Option (List ℕ) → Type 0
IsApart made None = ⊤
IsApart made (Some path) = made ≢ Some path

-- a list of names was read; where there is none it has no bytes
abbrev pub NamesAreRead : Option Files → Option (List ℕ) → List ℕ → Type 0
NamesAreRead files None names = names ≡ []
NamesAreRead files (Some path) names = Reads Names files path names

-- the files of a request were read, and none of them is what is made
abbrev pub AreRead : Option Files → Request → List ℕ → List ℕ → Type 0
AreRead files request first names =
    IsApart (made_path request) (Some (first_path request)) × IsApart (made_path request) (names_path request)
    × Reads (first_kind request) files (first_path request) first × NamesAreRead files (names_path request) names

-- the file of a path is what is made
abbrev pub IsMadeAt : Option Files → Option (List ℕ) → List ℕ → ProgramFault → Type 0
IsMadeAt files (Some made) path (IsRead at task) = (at.now ≡ path) × IsOneFile files path made true
IsMadeAt files made path fault = ⊥

abbrev pub IsMadeName : Option Files → Option (List ℕ) → Option (List ℕ) → ProgramFault → Type 0
IsMadeName files made None fault = ⊥
IsMadeName files made (Some path) fault = IsMadeAt files made path fault

-- it can't be read; or there is no memory
abbrev pub IsUnreadable : List ℕ → ProgramFault → Type 0
IsUnreadable path (File at reason task) = at.now ≡ path
IsUnreadable path (Sim Memory) = ⊤
IsUnreadable path fault = ⊥

abbrev pub IsUnreadableName : Option (List ℕ) → ProgramFault → Type 0
IsUnreadableName None fault = ⊥
IsUnreadableName (Some path) fault = IsUnreadable path fault

-- why the file of a path isn't read
abbrev pub IsUnreadAt : Option Files → Option (List ℕ) → List ℕ → ProgramFault → Type 0
IsUnreadAt files made path fault = IsMadeAt files made path fault ⊎ IsUnreadable path fault

-- Why the files of a request aren't read, in this order: the first is what is made, or the list of names is; the first can't be read, or,
-- where it was, the list can't.
abbrev pub IsUnread : Option Files → Request → ProgramFault → Type 0
IsUnread files request fault =
    IsMadeAt files (made_path request) (first_path request) fault
    ⊎ (IsApart (made_path request) (Some (first_path request))
    × (IsMadeName files (made_path request) (names_path request) fault
    ⊎ (IsApart (made_path request) (names_path request)
    × (IsUnreadable (first_path request) fault
    ⊎ ((first : List ℕ) × Reads (first_kind request) files (first_path request) first × IsUnreadableName (names_path request) fault)))))
