use Rattle.rt_elf.proofs.Common.{◌≡◌, ◌-◌, flat_map, numbered, e_phnum, program_header, program_headers, first, header_rows}
use Rattle.rt_elf.proofs.program_headers.check_headers.Given as goal

-- what the headers that are left have
abbrev pub invariant-loop-number : goal.invariant-loop-number
invariant-loop-number l = first (flat_map (header_rows l.file) (program_headers l.file)) ≡ first (flat_map (header_rows l.file) (numbered (program_header l.file) l.number (e_phnum l.file - l.number)))
