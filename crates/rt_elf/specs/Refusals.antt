-- Why an ELF file is refused: the first row that applies. Sums don't wrap.
use Rattle.std.specs.Prelude.{ℕ, ◌+◌, ◌-◌, ◌*◌, ◌/◌, ◌%◌, Bool, ◌==◌, ◌&&◌, ◌||◌, not, nat_eq, nat_lt, nat_le, List, [], ◌∷◌, ◌++◌, length, take, slice_index, Option, Some, None, if◌then◌else◌}
use Rattle.std.specs.List.{list_any, flat_map, starts_with}
use Rattle.rt_words.specs.Limits.{symbol_limit}
use Rattle.rt_elf.specs.flat.ElfMagic.{magic}
use Rattle.rt_elf.specs.flat.FlatNames.{Named}
use Rattle.rt_elf.specs.declared.fault.ElfFault.{ElfFault}
use Rattle.rt_elf.specs.declared.fault.ElfFault.TheVariants.{TooLarge, BadMagic, Truncated, Not32Bit, NotLittleEndian, NotRiscV, Relocatable, Shared, NotExecutable, Compressed, FloatAbi, OtherAbi, BadHeader, Dynamic, BadSegment, OutsideRam, Empty, Overlap, BadSymbols, TooManySymbols}
use Rattle.rt_elf.specs.declared.program_headers.ProgramHeader.{ProgramHeader}
use Rattle.rt_elf.specs.declared.sections.SectionHeader.{SectionHeader}
use Rattle.rt_elf.specs.declared.symbols.Entry.{Entry}
use Rattle.rt_elf.specs.Fields.{class, byte_order, e_type, e_machine, e_phoff, e_shoff, e_flags, e_phentsize, e_phnum, e_shentsize, e_shnum}
use Rattle.rt_elf.specs.ProgramHeaders.{program_headers, is_load, is_dynamic, is_segment}
use Rattle.rt_elf.specs.Spans.{lies_in_ram, has_bytes, overlap}
use Rattle.rt_elf.specs.SymbolTable.{has_sections, symbol_table, is_string_table, string_table, names_of, entries, entry_count}
use Rattle.rt_elf.specs.Telling.{may_tell}
use Rattle.rt_elf.specs.KeptNames.{kept_names}

-- a test, and the refusal where it holds
abbrev pub Row : Type 0
Row = Bool × ElfFault

-- the refusal of the first row whose test holds
abbrev pub first : List Row → Option ElfFault
first [] = None
first (row ∷ rows) = if row.0 then Some row.1 else first rows

-- the most bytes of a file, headers of segments, and entries of a symbol table
abbrev pub file_limit : ℕ
file_limit = 67108864

abbrev pub header_limit : ℕ
header_limit = 256

abbrev pub entry_limit : ℕ
entry_limit = 1048576

-- what isn't an ELF file of this machine's kind
abbrev pub kind_rows : List ℕ → List Row
kind_rows file =
    (nat_lt file_limit (length file), TooLarge)
    ∷ (not (starts_with nat_eq magic (take 4 file)), BadMagic)
    ∷ (nat_lt (length file) 52, Truncated)
    ∷ (not (class file == 1), Not32Bit)
    ∷ (not (byte_order file == 1), NotLittleEndian)
    ∷ (not (e_machine file == 243), NotRiscV)
    ∷ []

-- what isn't a linked program of RV32I; bit 0 of the flags is RVC, bits 1 and 2 are the float ABI
abbrev pub program_rows : List ℕ → List Row
program_rows file =
    (e_type file == 1, Relocatable)
    ∷ (e_type file == 3, Shared)
    ∷ (not (e_type file == 2), NotExecutable)
    ∷ (e_flags file % 2 == 1, Compressed)
    ∷ (not (e_flags file / 2 % 4 == 0), FloatAbi)
    ∷ (not (e_flags file == 0), OtherAbi)
    ∷ []

-- a table of program headers that can't be read
abbrev pub table_rows : List ℕ → List Row
table_rows file =
    (nat_lt header_limit (e_phnum file) || (not (e_phnum file == 0) && not (e_phentsize file == 32)), BadHeader)
    ∷ (not (e_phnum file == 0) && nat_lt (length file) (e_phoff file + 32 * e_phnum file), Truncated)
    ∷ []

-- a program header
abbrev pub header_rows : List ℕ → ProgramHeader → List Row
header_rows file h =
    (is_dynamic h, Dynamic)
    ∷ (is_load h && nat_lt h.memsz h.filesz, BadSegment)
    ∷ (has_bytes h && nat_lt (length file) (h.offset + h.filesz), Truncated)
    ∷ (is_segment h && not (lies_in_ram h.paddr h.filesz && lies_in_ram h.vaddr h.memsz), OutsideRam)
    ∷ []

-- the segments together
abbrev pub image_rows : List ProgramHeader → List Row
image_rows hs =
    (not (list_any has_bytes hs), Empty)
    ∷ (overlap hs, Overlap)
    ∷ []

-- a table of section headers that can't be read
abbrev pub section_rows : List ℕ → List Row
section_rows file =
    (has_sections file && not (e_shentsize file == 40), BadHeader)
    ∷ (has_sections file && nat_lt (length file) (e_shoff file + 40 * e_shnum file), Truncated)
    ∷ []

-- sizes and links of a symbol table: entries of 16 bytes, and names in a string table
abbrev pub has_shape : List ℕ → SectionHeader → Bool
has_shape file t = t.entsize == 16 && t.size % 16 == 0 && nat_lt t.link (e_shnum file) && is_string_table (string_table file t)

-- a section ends behind the file
abbrev pub is_cut : List ℕ → SectionHeader → Bool
is_cut file s = nat_lt (length file) (s.offset + s.size)

-- names that are empty, or don't end in 0
abbrev pub is_unended : List ℕ → Bool
is_unended names = length names == 0 || not (slice_index names (length names - 1) == 0)

-- an entry that may tell a symbol begins its name behind the n bytes of all names
abbrev pub lacks_name : ℕ → Entry → Bool
lacks_name n e = may_tell e && nat_le n e.name

-- a symbol table
abbrev pub symbol_rows : List ℕ → SectionHeader → List Row
symbol_rows file t =
    (not (has_shape file t), BadSymbols)
    ∷ (is_cut file t || is_cut file (string_table file t), Truncated)
    ∷ (is_unended (names_of file t), BadSymbols)
    ∷ (nat_lt entry_limit (entry_count t), TooManySymbols)
    ∷ (list_any (lacks_name (length (names_of file t))) (entries file t), BadSymbols)
    ∷ []

-- what is kept of one
abbrev pub kept_rows : Named → List Row
kept_rows named = (nat_lt symbol_limit (length named.symbols), TooManySymbols) ∷ []

abbrev pub symbols_rows : List ℕ → Option SectionHeader → List Row
symbols_rows file None = []
symbols_rows file (Some t) = symbol_rows file t

-- all of them; a row of program headers is tested for one header after the other
unfoldable pub refusal : List ℕ → Option ElfFault
refusal file = first (kind_rows file ++ (program_rows file ++ (table_rows file ++ (flat_map (header_rows file) (program_headers file)
    ++ (image_rows (program_headers file) ++ (section_rows file ++ (symbols_rows file (symbol_table file) ++ kept_rows (kept_names file))))))))
