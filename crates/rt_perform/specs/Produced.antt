-- The file that a request makes of what it read, and why it makes none: a table of the programs that make files.
use Rattle.std.specs.Prelude.{◌≡◌, ⊤, ◌⊎◌, ℕ, ◌<◌, List, length, Option, Some, None, Ok, Err}
use Rattle.std.specs.Global.{Vec}
use Rattle.rt_desk.specs.Desk.{Files}
use Rattle.rt_elf.specs.flat.FlatObject.{FlatMeans}
use Rattle.rt_elf.specs.declared.flat.entry.Entry.{Entry}
use Rattle.rt_elf.specs.ElfObject.{ElfMeans}
use Rattle.rt_elf.specs.declared.making.Made.{Made}
use Rattle.rt_elf.specs.declared.flat.making.Flat.{Flat}
use Rattle.rt_elf.specs.declared.naming.entry_name.EntryName.{EntryName}
use Rattle.rt_elf.specs.naming.NamedEntry.{NamesFile}
use Rattle.rt_elf.specs.naming.PathName.{NamesByPath}
use Rattle.rt_programs.specs.Asm.{AsmMeans}
use Rattle.rt_programs.specs.Convert.{ConvertMeans}
use Rattle.rt_programs.specs.Makes.{Makes}
use Rattle.rt_opening.specs.declared.fault.SimFault.TheVariants.{Memory}
use Rattle.rt_perform.specs.declared.program.ProgramFault.{ProgramFault}
use Rattle.rt_perform.specs.declared.program.ProgramFault.TheVariants as faults
use Rattle.rt_perform.specs.declared.request.LaidFile.{LaidFile}
use Rattle.rt_perform.specs.declared.request.Request.{Request}
use Rattle.rt_perform.specs.declared.request.Request.TheVariants.{Asm, Elf, Image, Pack, Convert}
use Rattle.rt_perform.specs.Objects.{StandsForNone}
use Rattle.rt_perform.specs.Packed.{GivesSystem, RefusesSet}
use Rattle.rt_perform.specs.Laid.{AreLaid, AreUnlaid}

-- the object file at a path of an ELF file, with the bytes of these files in its image; or why there is none
abbrev pub GivesElf : Option Files → List ℕ → List LaidFile → List ℕ → Vec ℕ → ℕ → Type 0
GivesElf files path laid elf file left_out =
    (made : Vec ℕ) × ElfMeans elf (Ok (record { bytes = made; left_out = left_out })) × AreLaid files path (Some elf) laid made.items file.items

abbrev pub RefusesElf : Option Files → List ℕ → List LaidFile → List ℕ → ProgramFault → Type 0
RefusesElf files path laid elf fault =
    StandsForNone elf fault ⊎ ((made : Made) × ElfMeans elf (Ok made) × AreUnlaid files path (Some elf) laid made.bytes.items fault)

-- the same of a flat image
abbrev pub GivesImage : Option Files → List ℕ → List LaidFile → List ℕ → Entry → List ℕ → Vec ℕ → ℕ → Type 0
GivesImage files path laid image entry names file left_out =
    (made : Vec ℕ) × FlatMeans image entry names (Ok (record { bytes = made; left_out = left_out })) × AreLaid files path None laid made.items file.items

abbrev pub IsNoImage : List ℕ → Entry → List ℕ → ProgramFault → Type 0
IsNoImage image entry names (faults.Flat fault) = FlatMeans image entry names (Err fault)
IsNoImage image entry names fault = ⊥

abbrev pub RefusesImage : Option Files → List ℕ → List LaidFile → List ℕ → Entry → List ℕ → ProgramFault → Type 0
RefusesImage files path laid image entry names fault =
    IsNoImage image entry names fault ⊎ ((made : Flat) × FlatMeans image entry names (Ok made) × AreUnlaid files path None laid made.bytes.items fault)

-- the bytes of the file, before its entry gets a name, and how many names are left out; so many are of the bytes that it is made of
abbrev pub GivesUnnamed : Option Files → Request → List ℕ → List ℕ → ℕ → Vec ℕ → ℕ → Type 0
GivesUnnamed files (Asm source object all name) first names less file left_out = Makes (AsmMeans first) (Ok file) × (left_out ≡ 0)
GivesUnnamed files (Elf path object name laid) first names less file left_out = GivesElf files object.now laid.now first file left_out
GivesUnnamed files (Image image object entry list name laid) first names less file left_out = GivesImage files object.now laid.now first entry names file left_out
GivesUnnamed files (Pack set system) first names less file left_out = GivesSystem files (Some system.now) first file left_out
GivesUnnamed files (Convert system converted) first names less file left_out = Makes (ConvertMeans first) (Ok file) × (left_out ≡ less)
GivesUnnamed files request first names less file left_out = ⊥

-- why there is no such file
abbrev pub RefusesUnnamed : Option Files → Request → List ℕ → List ℕ → ProgramFault → Type 0
RefusesUnnamed files (Asm source object all name) first names (faults.Sim fault) = Makes (AsmMeans first) (Err fault)
RefusesUnnamed files (Elf path object name laid) first names fault = RefusesElf files object.now laid.now first fault
RefusesUnnamed files (Image image object entry list name laid) first names fault = RefusesImage files object.now laid.now first entry names fault
RefusesUnnamed files (Pack set system) first names fault = RefusesSet files (Some system.now) first fault
RefusesUnnamed files (Convert system converted) first names (faults.Sim fault) = Makes (ConvertMeans first) (Err fault)
RefusesUnnamed files request first names fault = ⊥

-- the name that the entry of the object is to get
abbrev pub entry_name : Request → Option EntryName
entry_name (Asm source object all name) = name
entry_name (Elf path object name laid) = name
entry_name (Image image object entry list name laid) = name
entry_name request = None

-- the path that gives it one if none is asked for
abbrev pub naming_path : Request → Option (List ℕ)
naming_path (Elf path object name laid) = Some object.now
naming_path (Image image object entry list name laid) = Some object.now
naming_path request = None

-- the file with its name, and why it can't have that
abbrev pub IsNamed : Option EntryName → Option (List ℕ) → List ℕ → Vec ℕ → Type 0
IsNamed (Some name) path unnamed file = NamesFile unnamed name.word.now (Ok file)
IsNamed None (Some path) unnamed file = NamesByPath path unnamed file
IsNamed None None unnamed file = file.items ≡ unnamed

abbrev pub RefusesName : Option EntryName → Option (List ℕ) → List ℕ → ProgramFault → Type 0
RefusesName (Some name) path unnamed (faults.Name fault) = (fault.name ≡ name) × NamesFile unnamed name.word.now (Err fault.fault)
RefusesName None (Some path) unnamed (faults.Sim Memory) = ⊤
RefusesName name path unnamed fault = ⊥

-- the bytes of the file, and how many names are left out
abbrev pub Gives : Option Files → Request → List ℕ → List ℕ → ℕ → Vec ℕ → ℕ → Type 0
Gives files request first names less file left_out =
    (unnamed : Vec ℕ) × GivesUnnamed files request first names less unnamed left_out × IsNamed (entry_name request) (naming_path request) unnamed.items file

-- why there is none
unfoldable pub Refuses : Option Files → Request → List ℕ → List ℕ → ℕ → ProgramFault → Type 0
Refuses files request first names less fault =
    RefusesUnnamed files request first names fault
    ⊎ ((unnamed : Vec ℕ) × (left_out : ℕ) × GivesUnnamed files request first names less unnamed left_out
    × RefusesName (entry_name request) (naming_path request) unnamed.items fault)

-- the file of these bytes isn't made: it can't be; or its device failed within them; or there is no memory
abbrev pub IsUnmade : Option (List ℕ) → List ℕ → ProgramFault → Type 0
IsUnmade path bytes (faults.File at reason task) = path ≡ Some at.now
IsUnmade path bytes (faults.Device at fault reason) = (path ≡ Some at.now) × (fault.written < length bytes)
IsUnmade path bytes (faults.Sim Memory) = ⊤
IsUnmade path bytes fault = ⊥
