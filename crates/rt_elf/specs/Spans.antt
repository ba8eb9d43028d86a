-- The addresses where a segment is loaded, and those where it runs (System V gABI, "Program Loading"). Neither end wraps.
use Rattle.std.specs.Prelude.{ℕ, ◌+◌, Bool, false, ◌==◌, ◌&&◌, ◌||◌, nat_lt, nat_le, List, [], ◌∷◌}
use Rattle.std.specs.List.{list_any}
use Rattle.rt_words.specs.Base.{base}
use Rattle.rt_words.specs.Limits.{ram_limit}
use Rattle.rt_elf.specs.declared.program_headers.ProgramHeader.{ProgramHeader}
use Rattle.rt_elf.specs.ProgramHeaders.{is_segment}

-- the load span is from p_paddr to this end
abbrev pub load_end : ProgramHeader → ℕ
load_end h = h.paddr + h.filesz

-- the run span is from p_vaddr to this end
abbrev pub run_end : ProgramHeader → ℕ
run_end h = h.vaddr + h.memsz

-- a span of so many addresses from the first on lies in the greatest RAM
abbrev pub lies_in_ram : ℕ → ℕ → Bool
lies_in_ram first size = size == 0 || (nat_le base first && nat_le (first + size) (base + ram_limit))

-- a segment of which the file has bytes
abbrev pub has_bytes : ProgramHeader → Bool
has_bytes h = is_segment h && nat_lt 0 h.filesz

-- its load span has the address
abbrev pub loads : ProgramHeader → ℕ → Bool
loads h address = has_bytes h && nat_le h.paddr address && nat_lt address (load_end h)

-- two load spans share an address
abbrev pub share : ProgramHeader → ProgramHeader → Bool
share g h = has_bytes g && has_bytes h && nat_lt g.paddr (load_end h) && nat_lt h.paddr (load_end g)

-- two of these do
abbrev pub overlap : List ProgramHeader → Bool
overlap [] = false
overlap (h ∷ hs) = list_any (share h) hs || overlap hs
