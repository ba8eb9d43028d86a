-- The object of an ELF file, and what is answered.
use Rattle.std.specs.Prelude.{◌≡◌, ℕ, List, Some, None, Result, Ok, Err}
use Rattle.rt_image.specs.ObjectFile.{ObjectValue, IsObject, spelling}
use Rattle.rt_elf.specs.declared.fault.ElfFault.{ElfFault}
use Rattle.rt_elf.specs.declared.fault.ElfFault.TheVariants.{Memory}
use Rattle.rt_elf.specs.declared.making.Made.{Made}
use Rattle.rt_elf.specs.Fields.{e_entry}
use Rattle.rt_elf.specs.LoadedImage.{loaded}
use Rattle.rt_elf.specs.KeptNames.{kept_names}
use Rattle.rt_elf.specs.Refusals.{first, kept_rows, refusal}

-- the entry of the file, the bytes that it loads, the symbols that are kept
abbrev pub object_of : List ℕ → ObjectValue
object_of file = record { entry = e_entry file; bytes = loaded file; labels = (kept_names file).symbols }

-- a file that isn't refused has an object
pub record Makes (file : List ℕ) : Type 0 where
  pub taken : refusal file ≡ None
  pub valid : IsObject (object_of file)

-- What is answered: the one spelling of the object, and how many names are left out; or the refusal; or memory ran out, where no row but the
-- last can apply.
abbrev pub ElfMeans : List ℕ → Result Made ElfFault → Type 0
ElfMeans file (Ok made) = Makes file × (made.bytes.items ≡ spelling (object_of file)) × (made.left_out ≡ (kept_names file).left_out)
ElfMeans file (Err Memory) = refusal file ≡ first (kept_rows (kept_names file))
ElfMeans file (Err fault) = refusal file ≡ Some fault
