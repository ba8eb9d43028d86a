-- The symbols that a file tells, whether an object keeps them or not.
use Rattle.std.specs.Prelude.{◌≡◌, ⊤, ℕ, ◌&&◌, take, map, Bool, List, [], Option, Some, None}
use Rattle.rt_words.specs.Found.{when}
use Rattle.rt_image.specs.ObjectFile.{Label, labels}
use Rattle.rt_elf.specs.declared.fault.ElfFault.{ElfFault}
use Rattle.rt_elf.specs.declared.fault.ElfFault.TheVariants.{Memory}
use Rattle.rt_elf.specs.declared.sections.SectionHeader.{SectionHeader}
use Rattle.rt_elf.specs.declared.symbols.Entry.{Entry}
use Rattle.rt_elf.specs.declared.telling.Told.{Told}
use Rattle.rt_elf.specs.LoadedImage.{image_size}
use Rattle.rt_elf.specs.Refusals.{refusal}
use Rattle.rt_elf.specs.SymbolTable.{symbol_table, names_of, entries}
use Rattle.rt_elf.specs.Telling.{tells, told, is_of, all_told}

-- as many bytes of a name as show that no object may have it: one more than a name may have
abbrev pub shortened : Label → Label
shortened l = record { name = take 513 l.name; address = l.address }

-- the symbol of an entry, if it is local or not, and tells one
abbrev pub told_at : Bool → List ℕ → Entry → Option Label
told_at local names e = when (is_of local e && tells names e) (shortened (told names e))

abbrev pub told_of : List ℕ → Option SectionHeader → List Label
told_of file None = []
told_of file (Some table) = map shortened (all_told (names_of file table) (entries file table))

-- those of a file, and the size of its image
pub record IsTold (file : List ℕ) (t : Told) : Type 0 where
  pub size : t.image_size ≡ image_size file
  pub symbols : labels t.symbols.items ≡ told_of file (symbol_table file)

-- none where the file is refused, or memory ran out
abbrev pub IsUntold : List ℕ → ElfFault → Type 0
IsUntold file Memory = ⊤
IsUntold file fault = refusal file ≡ Some fault
