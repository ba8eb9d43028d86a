-- What was tested and made of a file so far.
use Rattle.std.specs.Prelude.{◌≡◌, ℕ, List, Option, None, IfSome}
use Rattle.std.specs.List.{flat_map}
use Rattle.rt_image.specs.ObjectFile.{ObjectValue, IsObject, spelling}
use Rattle.rt_elf.specs.declared.sections.SectionHeader.{SectionHeader}
use Rattle.rt_elf.specs.ProgramHeaders.{program_headers}
use Rattle.rt_elf.specs.SymbolTable.{symbol_table}
use Rattle.rt_elf.specs.KeptNames.{kept_names}
use Rattle.rt_elf.specs.Refusals.{first, header_rows, kept_rows, refusal}
use Rattle.rt_elf.specs.Working.Checks.{HasTable, HasSections, HasSymbols}

-- no row applies up to the last, and this is the symbol table
pub record Passes (file : List ℕ) (table : Option SectionHeader) : Type 0 where
  pub found : table ≡ symbol_table file
  pub headers : HasTable file
  pub fit : first (flat_map (header_rows file) (program_headers file)) ≡ None
  pub symbols : IfSome table (λ t. HasSections file × HasSymbols file t)
  pub left : refusal file ≡ first (kept_rows (kept_names file))

-- the bytes are the spelling of an object that has one
pub record Spells (bytes : List ℕ) (o : ObjectValue) : Type 0 where
  pub valid : IsObject o
  pub spelled : bytes ≡ spelling o
