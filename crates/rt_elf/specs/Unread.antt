-- A byte of a file that is never looked at: of no field that is read, of no bytes of a segment, of no name.
use Rattle.std.specs.Prelude.{◌≡◌, ℕ, ◌+◌, ◌*◌, ◌<◌, ◌≤◌, ◌⊎◌, List, Contains, true, Some}
use Rattle.rt_elf.specs.declared.program_headers.ProgramHeader.{ProgramHeader}
use Rattle.rt_elf.specs.declared.sections.SectionHeader.{SectionHeader}
use Rattle.rt_elf.specs.Fields.{e_phoff, e_phnum, e_shoff, e_shnum}
use Rattle.rt_elf.specs.ProgramHeaders.{program_headers}
use Rattle.rt_elf.specs.Spans.{has_bytes}
use Rattle.rt_elf.specs.SymbolTable.{symbol_table, string_table, entry_count}

-- a place is none of the n places from one on
abbrev pub Outside : ℕ → ℕ → ℕ → Type 0
Outside place at n = (place < at) ⊎ (at + n ≤ place)

-- no field of a section header that is read: its type; its place, size and link; the size of its entries
pub record IsOutsideSection (place at : ℕ) : Type 0 where
  pub kind : Outside place (at + 4) 4
  pub contents : Outside place (at + 16) 12
  pub entsize : Outside place (at + 36) 4

-- no field of an entry that is read: its name and address; its type and binding; its section
pub record IsOutsideEntry (place at : ℕ) : Type 0 where
  pub name : Outside place at 8
  pub info : Outside place (at + 12) 1
  pub section : Outside place (at + 14) 2

-- none of a symbol table's entries, and none of its names
pub record IsOutsideSymbols (file : List ℕ) (place : ℕ) (t : SectionHeader) : Type 0 where
  pub entries : (k : ℕ) → k < entry_count t → IsOutsideEntry place (t.offset + 16 * k)
  pub names : Outside place (string_table file t).offset (string_table file t).size

-- The bytes of e_ident from the sixth on, e_version, e_ehsize and e_shstrndx are such; p_flags and p_align of a program header, its last
-- eight bytes, are too; and what nothing points to.
pub record IsUnread (file : List ℕ) (place : ℕ) : Type 0 where
  pub ident : 6 ≤ place
  pub kind : Outside place 16 4
  pub fields : Outside place 24 16
  pub sizes : Outside place 42 8
  pub headers : (k : ℕ) → k < e_phnum file → Outside place (e_phoff file + 32 * k) 24
  pub sections : (k : ℕ) → k < e_shnum file → IsOutsideSection place (e_shoff file + 40 * k)
  pub segments : (h : ProgramHeader) → Contains (program_headers file) h → has_bytes h ≡ true → Outside place h.offset h.filesz
  pub symbols : (t : SectionHeader) → symbol_table file ≡ Some t → IsOutsideSymbols file place t
