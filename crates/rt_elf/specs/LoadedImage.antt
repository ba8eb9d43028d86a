-- The image of an ELF file: its bytes lie where they are loaded, and it reaches to where the program runs.
use Rattle.std.specs.Prelude.{ℕ, ◌+◌, ◌-◌, max, List, [], ◌∷◌, slice_index, if◌then◌else◌}
use Rattle.rt_words.specs.Base.{base}
use Rattle.rt_elf.specs.declared.program_headers.ProgramHeader.{ProgramHeader}
use Rattle.rt_elf.specs.Fields.{numbered}
use Rattle.rt_elf.specs.ProgramHeaders.{program_headers, is_segment}
use Rattle.rt_elf.specs.Spans.{load_end, run_end, has_bytes, loads}

-- the end of a segment's spans, the greater of the two; 0 of what is none
abbrev pub reach : ProgramHeader → ℕ
reach h = max (if has_bytes h then load_end h else 0) (if is_segment h then run_end h else 0)

-- the greatest of these
abbrev pub greatest_reach : List ProgramHeader → ℕ
greatest_reach [] = 0
greatest_reach (h ∷ hs) = max (reach h) (greatest_reach hs)

abbrev pub image_size : List ℕ → ℕ
image_size file = greatest_reach (program_headers file) - base

-- the byte of the file at an address: that of the segment whose load span has it, and 0 where none has
abbrev pub byte_for : List ℕ → List ProgramHeader → ℕ → ℕ
byte_for file [] address = 0
byte_for file (h ∷ hs) address = if loads h address then slice_index file (h.offset + (address - h.paddr)) else byte_for file hs address

-- the bytes from the first address of RAM on
abbrev pub loaded : List ℕ → List ℕ
loaded file = numbered (byte_for file (program_headers file)) base (image_size file)
