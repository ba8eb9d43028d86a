-- A file of one segment that is loaded and runs at the first address of RAM, and has all of its bytes.
use Rattle.std.specs.Prelude.{◌≡◌, ℕ, List, [], ◌∷◌}
use Rattle.std.specs.List.{filter}
use Rattle.rt_words.specs.Base.{base}
use Rattle.rt_elf.specs.declared.program_headers.ProgramHeader.{ProgramHeader}
use Rattle.rt_elf.specs.ProgramHeaders.{program_headers, is_segment}

pub record IsFlat (file : List ℕ) (h : ProgramHeader) : Type 0 where
  pub alone : filter is_segment (program_headers file) ≡ h ∷ []
  pub loaded : h.paddr ≡ base
  pub runs : h.vaddr ≡ base
  pub whole : h.filesz ≡ h.memsz
