-- What a function answers that tests rows.
use Rattle.std.specs.Prelude.{◌≡◌, ℕ, ◌+◌, ◌*◌, ◌<◌, ◌≤◌, List, length, false, slice_index, ◌-◌, Option, Some, None, Result, Ok, Err, if◌then◌else◌}
use Rattle.rt_elf.specs.declared.fault.ElfFault.{ElfFault}
use Rattle.rt_elf.specs.Fields.{e_phoff, e_phnum, e_shoff, e_shnum}
use Rattle.rt_words.specs.Base.{base}
use Rattle.rt_elf.specs.declared.program_headers.ProgramHeader.{ProgramHeader}
use Rattle.rt_elf.specs.Spans.{loads}
use Rattle.rt_elf.specs.declared.sections.SectionHeader.{SectionHeader}
use Rattle.rt_elf.specs.SymbolTable.{string_table, names_of, entries}
use Rattle.rt_elf.specs.Refusals.{lacks_name}
use Rattle.std.specs.List.{list_any}

-- no row applies, or the fault is the first one's
abbrev pub Checks : Result (Unit {0}) ElfFault → Option ElfFault → Type 0
Checks (Ok _) found = found ≡ None
Checks (Err fault) found = found ≡ Some fault

-- the file has its header, and the table of program headers where there is one
pub record HasTable (file : List ℕ) : Type 0 where
  pub header : 52 ≤ length file
  pub table : 0 < e_phnum file → e_phoff file + 32 * e_phnum file ≤ length file

-- the file has its header and the table of section headers
pub record HasSections (file : List ℕ) : Type 0 where
  pub header : 52 ≤ length file
  pub table : e_shoff file + 40 * e_shnum file ≤ length file

-- a symbol table, its names and its entries can be read
pub record HasSymbols (file : List ℕ) (table : SectionHeader) : Type 0 where
  pub linked : table.link < e_shnum file
  pub whole : table.offset + table.size ≤ length file
  pub whole_names : (string_table file table).offset + (string_table file table).size ≤ length file
  pub named : list_any (lacks_name (length (names_of file table))) (entries file table) ≡ false

-- the bytes of a segment were put where it is loaded; the others are as they were
pub record Lays (file : List ℕ) (h : ProgramHeader) (old new : List ℕ) : Type 0 where
  pub len : length new ≡ length old
  pub bytes : (j : ℕ) → j < length old → slice_index new j ≡ (if loads h (base + j) then slice_index file (h.offset + (base + j - h.paddr)) else slice_index old j)
