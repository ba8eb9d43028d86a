-- What a file that stands for an object means: an ELF file the object file that `elf` makes of it, any other file itself.
use Rattle.std.specs.Prelude.{◌≡◌, ℕ, List, Bool, true, false, Ok, Err}
use Rattle.std.specs.Global.{Vec}
use Rattle.rt_elf.specs.flat.ElfMagic.{is_elf}
use Rattle.rt_elf.specs.ElfObject.{ElfMeans}
use Rattle.rt_elf.specs.naming.PathName.{NamesByPath}
use Rattle.rt_perform.specs.declared.program.ProgramFault.{ProgramFault}
use Rattle.rt_perform.specs.declared.program.ProgramFault.TheVariants.{Elf}

-- the object file of an ELF file, whose entry gets its name from a path, and how many names are left out
abbrev pub GivesObject : List ℕ → List ℕ → Vec ℕ → ℕ → Type 0
GivesObject path file object left_out =
    (unnamed : Vec ℕ) × ElfMeans file (Ok (record { bytes = unnamed; left_out = left_out })) × NamesByPath path unnamed.items object

-- the bytes of the object file that the file of a path stands for, which is an ELF file or isn't, and how many names are left out
abbrev pub StandsAs : Bool → List ℕ → List ℕ → List ℕ → ℕ → Type 0
StandsAs false path file object left_out = (object ≡ file) × (left_out ≡ 0)
StandsAs true path file object left_out = (made : Vec ℕ) × GivesObject path file made left_out × (object ≡ made.items)

abbrev pub StandsForObject : List ℕ → List ℕ → List ℕ → ℕ → Type 0
StandsForObject path file object left_out = StandsAs (is_elf file) path file object left_out

-- why an ELF file stands for none
abbrev pub StandsForNone : List ℕ → ProgramFault → Type 0
StandsForNone file (Elf fault task) = ElfMeans file (Err fault)
StandsForNone file fault = ⊥
