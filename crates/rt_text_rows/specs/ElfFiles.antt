-- Rows of ELF files that are refused: headers alone, and segments.
use Rattle.std.specs.Prelude.{◌≡◌, ℕ, ◌/◌, ◌%◌, ◌+◌, ◌*◌, List, [], ◌∷◌, ◌++◌, length, map, replicate, Some}
use Rattle.std.specs.List.{flat_map}
use Rattle.rt_elf.specs.flat.ElfMagic.{magic}
use Rattle.rt_elf.specs.Refusals.{refusal}
use Rattle.rt_elf.specs.declared.fault.ElfFault.{ElfFault}
use Rattle.rt_rows.specs.Sets.{word_bytes}

-- these files are refused so
abbrev pub AreRefused : List (List ℕ × ElfFault) → Type 0
AreRefused rows = map (λ r. refusal r.0) rows ≡ map (λ r. Some r.1) rows

-- a header of this class and byte order, this type and machine, these flags, and so many program headers, which have no bytes
abbrev pub header : ℕ → ℕ → ℕ → ℕ → ℕ → ℕ → List ℕ
header class order kind machine flags count =
    magic ++ (class ∷ order ∷ 1 ∷ replicate 9 0) ++ (kind ∷ 0 ∷ machine ∷ 0 ∷ 1 ∷ replicate 15 0)
    ++ (flags ∷ 0 ∷ 0 ∷ 0 ∷ 52 ∷ 0 ∷ 32 ∷ 0 ∷ count % 256 ∷ count / 256 ∷ replicate 6 0)

-- of this machine
abbrev pub program : ℕ → ℕ → ℕ → List ℕ
program kind flags count = header 1 1 kind 243 flags count

abbrev pub spelled : List ℕ → List ℕ
spelled words = flat_map word_bytes words

-- the words of the header of a program with so many program headers behind it, and so many section headers of this size at this place
abbrev pub file_header : ℕ → ℕ → ℕ → ℕ → List ℕ
file_header count sections size section_count =
    0x464C457F ∷ 0x00010101 ∷ 0 ∷ 0 ∷ 0x00F30002 ∷ 1 ∷ 0x80000000 ∷ 52 ∷ sections ∷ 0 ∷ 0x00200034 ∷ (size * 65536 + count) ∷ section_count ∷ []

-- a program header of this type, with bytes at this place, that runs here, is loaded there, and has so many bytes of so many
abbrev pub segment : ℕ → ℕ → ℕ → ℕ → ℕ → ℕ → List ℕ
segment kind offset runs loaded filesz memsz = kind ∷ offset ∷ runs ∷ loaded ∷ filesz ∷ memsz ∷ 7 ∷ 4 ∷ []

-- a file of these, without sections, or with a header of one of this size at this place
abbrev pub of_sections : ℕ → ℕ → ℕ → List (List ℕ) → List ℕ
of_sections sections size count segments = spelled (file_header (length segments) sections size count ++ flat_map (λ s. s) segments)

abbrev pub of_segments : List (List ℕ) → List ℕ
of_segments segments = of_sections 0 0 0 segments

-- four bytes at this address, where they run too
abbrev pub word_at : ℕ → List ℕ
word_at address = segment 1 0 address address 4 4
