-- Two files with the same program headers in any order, and the same bytes to load.
use Rattle.std.specs.Prelude.{◌≡◌, ℕ, ◌+◌, List, Contains, true, slice_range}
use Rattle.std.specs.List.Sorted.{IsPermutation}
use Rattle.rt_elf.specs.declared.program_headers.ProgramHeader.{ProgramHeader}
use Rattle.rt_elf.specs.ProgramHeaders.{program_headers}
use Rattle.rt_elf.specs.Spans.{has_bytes}

-- the bytes of a segment. They may be those of the table of program headers itself, where linkers load it.
abbrev pub segment_bytes : List ℕ → ProgramHeader → List ℕ
segment_bytes file h = slice_range file h.offset (h.offset + h.filesz)

pub record AreReordered (f g : List ℕ) : Type 0 where
  pub headers : IsPermutation (program_headers f) (program_headers g)
  pub bytes : (h : ProgramHeader) → Contains (program_headers f) h → has_bytes h ≡ true → segment_bytes f h ≡ segment_bytes g h
