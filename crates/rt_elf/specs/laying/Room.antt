-- How many bytes there is room for from a symbol on: those up to the end of the greatest RAM, and no more than an ELF file says that the symbol has.
use Rattle.std.specs.Prelude.{ℕ, ◌+◌, ◌-◌, ◌*◌, min, ◌==◌, ◌&&◌, nat_lt, Bool, List, Option, Some, None, if◌then◌else◌}
use Rattle.std.specs.List.{fold}
use Rattle.std.specs.Str.{bytes_eq}
use Rattle.rt_words.specs.Base.{base}
use Rattle.rt_words.specs.Limits.{ram_limit}
use Rattle.rt_image.specs.ObjectFile.{Label}
use Rattle.rt_elf.specs.declared.sections.SectionHeader.{SectionHeader}
use Rattle.rt_elf.specs.declared.symbols.Entry.{Entry}
use Rattle.rt_elf.specs.Fields.{number, numbered}
use Rattle.rt_elf.specs.SymbolTable.{symbol_table, names_of, entry, entry_count}
use Rattle.rt_elf.specs.Telling.{may_tell, string_at}

-- the size that entry k of a symbol table says (st_size): 0 where it says none
abbrev pub size_at : List ℕ → SectionHeader → ℕ → ℕ
size_at file table k = number file (table.offset + 16 * k + 8) 4

-- an entry has this name and this address
abbrev pub is_entry_of : List ℕ → Label → Entry → Bool
is_entry_of names l e = may_tell e && e.value == l.address && bytes_eq l.name (string_at names e.name)

abbrev pub says_size : List ℕ → SectionHeader → Label → ℕ → Bool
says_size file table l k = nat_lt 0 (size_at file table k) && is_entry_of (names_of file table) l (entry file table k)

-- no more than one more entry says
abbrev pub after_entry : List ℕ → SectionHeader → Label → ℕ → ℕ → ℕ
after_entry file table l room k = if says_size file table l k then min room (size_at file table k) else room

-- all of RAM behind an address
abbrev pub ram_from : ℕ → ℕ
ram_from address = base + ram_limit - address

abbrev pub each : ℕ → ℕ
each k = k

abbrev pub room_by : List ℕ → Option SectionHeader → Label → ℕ
room_by file None l = ram_from l.address
room_by file (Some table) l = fold (after_entry file table l) (ram_from l.address) (numbered each 0 (entry_count table))

-- by the symbol table of an ELF file, if the object is made of one that has it
abbrev pub room_of : Option (List ℕ) → Label → ℕ
room_of None l = ram_from l.address
room_of (Some file) l = room_by file (symbol_table file) l
