-- What a request works on: of a set file in place of a system file, the system file that `pack` makes of it; of an ELF file in place of an
-- object file, the object file that `elf` makes of it.
use Rattle.std.specs.Prelude.{◌≡◌, ◌⊎◌, ℕ, ◌&&◌, List, Bool, true, false, Option}
use Rattle.std.specs.Global.{Vec}
use Rattle.rt_desk.specs.Desk.{Files}
use Rattle.rt_elf.specs.flat.ElfMagic.{is_elf}
use Rattle.rt_set.specs.SetLines.{is_set}
use Rattle.rt_desk.specs.reading.Extent.{takes_sets, takes_elf_files}
use Rattle.rt_perform.specs.declared.program.ProgramFault.{ProgramFault}
use Rattle.rt_perform.specs.declared.request.Request.{Request}
use Rattle.rt_perform.specs.Paths.{first_path, first_kind, made_path}
use Rattle.rt_perform.specs.Inputs.{AreRead, IsUnread}
use Rattle.rt_perform.specs.Objects.{StandsAs, StandsForNone}
use Rattle.rt_perform.specs.Packed.{GivesSystem, RefusesSet}

-- what was read for a request that takes a system is a set file
abbrev pub is_placed : Request → List ℕ → Bool
is_placed request read = takes_sets (first_kind request) && is_set read

-- what was read for a request that takes an object is an ELF file
abbrev pub is_linked : Request → List ℕ → Bool
is_linked request read = takes_elf_files (first_kind request) && is_elf read

-- from what was read, the bytes that the request works on, and how many names are left out of them
abbrev pub Becomes : Bool → Option Files → Request → List ℕ → List ℕ → ℕ → Type 0
Becomes false files request read first left_out = StandsAs (is_linked request read) (first_path request) read first left_out
Becomes true files request read first left_out = (file : Vec ℕ) × GivesSystem files (made_path request) read file left_out × (first ≡ file.items)

-- the files of a request were read, and this is what it works on, with the list of names
pub record IsGiven (files : Option Files) (request : Request) (first names : List ℕ) (left_out : ℕ) : Type 0 where
  pub read : List ℕ
  pub are_read : AreRead files request read names
  pub becomes : Becomes (is_placed request read) files request read first left_out

-- what was read gives nothing to work on: there is no system of the set file, or no object of the ELF file
abbrev pub GivesNothing : Option Files → Request → List ℕ → ProgramFault → Type 0
GivesNothing files request read fault =
    ((is_placed request read ≡ true) × RefusesSet files (made_path request) read fault)
    ⊎ ((is_linked request read ≡ true) × StandsForNone read fault)

-- it has nothing to work on: its files aren't read, or they give nothing
abbrev pub HasNothing : Option Files → Request → ProgramFault → Type 0
HasNothing files request fault =
    IsUnread files request fault ⊎ ((read names : List ℕ) × AreRead files request read names × GivesNothing files request read fault)
