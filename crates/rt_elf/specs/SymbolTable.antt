-- Section headers and the symbol table of an ELF file (System V gABI, "Sections", "Symbol Table").
use Rattle.std.specs.Prelude.{ℕ, ◌+◌, ◌*◌, ◌/◌, ◌%◌, Bool, ◌==◌, ◌&&◌, not, List, take, drop, Option, None, if◌then◌else◌}
use Rattle.std.specs.List.{find}
use Rattle.rt_elf.specs.declared.sections.SectionHeader.{SectionHeader}
use Rattle.rt_elf.specs.declared.symbols.Entry.{Entry}
use Rattle.rt_elf.specs.Fields.{number, numbered, e_shoff, e_shnum}

-- header k of the table
unfoldable pub section_header : List ℕ → ℕ → SectionHeader
section_header file k = let at = e_shoff file + 40 * k in record {
  kind = number file (at + 4) 4;
  offset = number file (at + 16) 4;
  size = number file (at + 20) 4;
  link = number file (at + 24) 4;
  entsize = number file (at + 36) 4;
}

abbrev pub section_headers : List ℕ → List SectionHeader
section_headers file = numbered (section_header file) 0 (e_shnum file)

abbrev pub has_sections : List ℕ → Bool
has_sections file = not (e_shoff file == 0) && not (e_shnum file == 0)

-- SHT_SYMTAB and SHT_STRTAB
abbrev pub is_symbol_table : SectionHeader → Bool
is_symbol_table s = s.kind == 2

abbrev pub is_string_table : SectionHeader → Bool
is_string_table s = s.kind == 3

-- the first symbol table, if there is one
abbrev pub symbol_table : List ℕ → Option SectionHeader
symbol_table file = if has_sections file then find is_symbol_table (section_headers file) else None

-- the bytes of a section
abbrev pub contents : List ℕ → SectionHeader → List ℕ
contents file s = take s.size (drop s.offset file)

-- the string table of a symbol table, and its bytes
abbrev pub string_table : List ℕ → SectionHeader → SectionHeader
string_table file table = section_header file table.link

abbrev pub names_of : List ℕ → SectionHeader → List ℕ
names_of file table = contents file (string_table file table)

-- entry k of a symbol table; the low half of its byte 12 is its type, the high half its binding
unfoldable pub entry : List ℕ → SectionHeader → ℕ → Entry
entry file table k = let at = table.offset + 16 * k in record {
  name = number file at 4;
  value = number file (at + 4) 4;
  kind = number file (at + 12) 1 % 16;
  binding = number file (at + 12) 1 / 16;
  section = number file (at + 14) 2;
}

-- how many there are
abbrev pub entry_count : SectionHeader → ℕ
entry_count table = table.size / 16

abbrev pub entries : List ℕ → SectionHeader → List Entry
entries file table = numbered (entry file table) 0 (entry_count table)
