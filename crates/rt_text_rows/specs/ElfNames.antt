-- Rows of a whole ELF file: two segments, and a symbol table.
use Rattle.std.specs.Prelude.{◌≡◌, ℕ, ◌+◌, List, [], ◌∷◌, ◌++◌, codes, replicate, None}
use Rattle.std.specs.List.{flat_map}
use Rattle.rt_image.specs.ObjectFile.{ObjectValue}
use Rattle.rt_elf.specs.ElfObject.{object_of}
use Rattle.rt_elf.specs.KeptNames.{kept_names}
use Rattle.rt_elf.specs.Refusals.{refusal}
use Rattle.rt_text_rows.specs.ElfFiles.{spelled, file_header, segment}

-- a name with the 0 behind it
abbrev pub ended : List ℕ → List ℕ
ended name = name ++ 0 ∷ []

-- the file's header; a segment that is loaded at 0x80000000 and runs there; one that is loaded at 0x80000008 and runs at 0x80000010, up to
-- 0x80000018; and the bytes of both
abbrev pub headers_and_bytes : List ℕ
headers_and_bytes =
    file_header 2 271 40 4 ++ segment 1 116 0x80000000 0x80000000 8 8 ++ segment 1 124 0x80000010 0x80000008 4 8
    ++ 0x00108093 ∷ 0x0000006F ∷ 42 ∷ []

-- an entry of the table; its last word has the binding and the type, and the section above them
abbrev pub symbol : ℕ → ℕ → ℕ → List ℕ
symbol name value kind = name ∷ value ∷ 4 ∷ kind ∷ []

-- none, `_start`, two of the name `v`, of which the low bytes of the last words are these, one that nm doesn't show, and two numbers
abbrev pub symbols : ℕ → ℕ → List ℕ
symbols first second =
    (0 ∷ 0 ∷ 0 ∷ 0 ∷ []) ++ symbol 1 0x80000000 0x00010010 ++ symbol 8 0x80000010 (0x00010000 + first) ++ symbol 10 0x80000000 (0x00010000 + second)
    ++ symbol 12 0x80000000 0x00010000 ++ symbol 23 0x80010000 0xFFF10010 ++ symbol 27 0x80000018 0xFFF10010

abbrev pub names : List (List ℕ)
names = [] ∷ codes "_start" ∷ codes "v" ∷ codes "v" ∷ codes "$xrv32i2p1" ∷ codes "top" ∷ codes "end" ∷ []

-- a section header of this type, place and size, with this link, of entries of this size
abbrev pub section : ℕ → ℕ → ℕ → ℕ → ℕ → List ℕ
section kind offset size link entsize = 0 ∷ kind ∷ 0 ∷ 0 ∷ offset ∷ size ∷ link ∷ 0 ∷ 4 ∷ entsize ∷ []

-- no section, the bytes of the segments, the symbols and their names
abbrev pub sections : List ℕ → List ℕ → List ℕ
sections table strings = section 0 0 0 0 0 ++ section 1 116 12 0 0 ++ table ++ strings

abbrev pub table : List ℕ
table = section 2 128 112 3 16

abbrev pub strings : List ℕ
strings = section 3 240 31 0 0

-- the file of these symbols and sections
abbrev pub linked : List ℕ → List ℕ → List ℕ
linked symbols sections = spelled (headers_and_bytes ++ symbols) ++ flat_map ended names ++ spelled sections

abbrev pub program_file : ℕ → ℕ → List ℕ
program_file first second = linked (symbols first second) (sections table strings)

-- with another table of symbols, or of their names
abbrev pub with_table : List ℕ → List ℕ
with_table other = linked (symbols 0x11 0x01) (sections other strings)

abbrev pub with_strings : List ℕ → List ℕ
with_strings other = linked (symbols 0x11 0x01) (sections table other)

-- with entries whose last name begins so far behind the first
abbrev pub with_last_name : ℕ → List ℕ
with_last_name at = linked (replicate 24 0 ++ symbol at 0x80000000 0x00010000) (sections table strings)

-- the object, with `v` at this address
abbrev pub object : ℕ → ObjectValue
object v = record {
  entry = 0x80000000;
  bytes = spelled (0x00108093 ∷ 0x0000006F ∷ 42 ∷ 0 ∷ 0 ∷ 0 ∷ []);
  labels = record { name = codes "_start"; address = 0x80000000 } ∷ record { name = codes "end"; address = 0x80000018 } ∷ record { name = codes "v"; address = v } ∷ [];
}

-- it is made of the file, and leaves two names out: the other `v`, and `top`, which lies behind the image
abbrev pub IsMade : ℕ → ℕ → ℕ → Type 0
IsMade first second v =
    (refusal (program_file first second) ≡ None) × (object_of (program_file first second) ≡ object v) × ((kept_names (program_file first second)).left_out ≡ 2)
