-- Files whose bytes stand in the image of an object that is made, each from a symbol on: one after the other.
use Rattle.std.specs.Prelude.{◌≡◌, ◌⊎◌, ℕ, List, [], ◌∷◌, Option, Some}
use Rattle.std.specs.Option.{is_some}
use Rattle.rt_desk.specs.Desk.{Files}
use Rattle.rt_desk.specs.declared.reading.kind.FileKind.TheVariants as kinds
use Rattle.rt_desk.specs.reading.Reads.{Reads}
use Rattle.rt_image.specs.ObjectFile.{ObjectValue, IsObject, spelling}
use Rattle.rt_elf.specs.laying.LaidData.{Lays, LaysNone}
use Rattle.rt_perform.specs.declared.program.ProgramFault.{ProgramFault}
use Rattle.rt_perform.specs.declared.program.ProgramFault.TheVariants as faults
use Rattle.rt_perform.specs.declared.request.LaidFile.{LaidFile}
use Rattle.rt_perform.specs.Inputs.{IsApart, IsUnreadAt}

-- a file spells an object
abbrev pub SpellsObject : List ℕ → Type 0
SpellsObject file = (o : ObjectValue) × IsObject o × (file ≡ spelling o)

-- the bytes were read, and their file isn't what is made; more than the most bytes of an ELF file fit into no image
abbrev pub AreBytes : Option Files → List ℕ → List ℕ → List ℕ → Type 0
AreBytes files made path bytes = IsApart (Some made) (Some path) × Reads kinds.Elf files path bytes

-- an object file, and the one with the bytes of a file in its image; the object was made of this ELF file, if it was made of one
abbrev pub IsLaid : Option Files → List ℕ → Option (List ℕ) → LaidFile → List ℕ → List ℕ → Type 0
IsLaid files made elf file old new = (bytes : List ℕ) × AreBytes files made file.path.now bytes × Lays elf file.symbol.now bytes old new

abbrev pub AreLaid : Option Files → List ℕ → Option (List ℕ) → List LaidFile → List ℕ → List ℕ → Type 0
AreLaid files made elf [] old new = new ≡ old
AreLaid files made elf (file ∷ rest) old new = (mid : List ℕ) × IsLaid files made elf file old mid × AreLaid files made elf rest mid new

-- these bytes don't come to stand in the image
abbrev pub LaysNothing : Option (List ℕ) → LaidFile → List ℕ → List ℕ → ProgramFault → Type 0
LaysNothing elf file bytes old (faults.Laid fault) = (fault.symbol ≡ file.symbol) × (fault.of_elf ≡ is_some elf) × LaysNone elf file.symbol.now bytes old fault.fault
LaysNothing elf file bytes old fault = ⊥

-- the file isn't read, or its bytes don't come to stand there
abbrev pub IsUnlaid : Option Files → List ℕ → Option (List ℕ) → LaidFile → List ℕ → ProgramFault → Type 0
IsUnlaid files made elf file old fault =
    IsUnreadAt files (Some made) file.path.now fault ⊎ ((bytes : List ℕ) × AreBytes files made file.path.now bytes × LaysNothing elf file bytes old fault)

-- that is so of one of these files, and those before it are laid
abbrev pub AreUnlaid : Option Files → List ℕ → Option (List ℕ) → List LaidFile → List ℕ → ProgramFault → Type 0
AreUnlaid files made elf [] old fault = ⊥
AreUnlaid files made elf (file ∷ rest) old fault =
    IsUnlaid files made elf file old fault ⊎ ((mid : List ℕ) × IsLaid files made elf file old mid × AreUnlaid files made elf rest mid fault)
