-- The program headers of an ELF file, and which of them are segments (System V gABI, "Program Header").
use Rattle.std.specs.Prelude.{ℕ, ◌+◌, ◌*◌, Bool, ◌==◌, ◌&&◌, ◌||◌, nat_lt, List}
use Rattle.rt_elf.specs.declared.program_headers.ProgramHeader.{ProgramHeader}
use Rattle.rt_elf.specs.Fields.{number, numbered, e_phoff, e_phnum}

-- what stands from a place on
unfoldable pub header_at : List ℕ → ℕ → ProgramHeader
header_at file at = record {
  kind = number file at 4;
  offset = number file (at + 4) 4;
  vaddr = number file (at + 8) 4;
  paddr = number file (at + 12) 4;
  filesz = number file (at + 16) 4;
  memsz = number file (at + 20) 4;
}

-- header k of the table
abbrev pub program_header : List ℕ → ℕ → ProgramHeader
program_header file k = header_at file (e_phoff file + 32 * k)

abbrev pub program_headers : List ℕ → List ProgramHeader
program_headers file = numbered (program_header file) 0 (e_phnum file)

-- PT_LOAD, PT_DYNAMIC and PT_INTERP
abbrev pub is_load : ProgramHeader → Bool
is_load h = h.kind == 1

abbrev pub is_dynamic : ProgramHeader → Bool
is_dynamic h = h.kind == 2 || h.kind == 3

-- a segment is to be loaded, and takes room in memory
abbrev pub is_segment : ProgramHeader → Bool
is_segment h = is_load h && nat_lt 0 h.memsz
