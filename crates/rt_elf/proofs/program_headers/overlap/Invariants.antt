use Rattle.rt_elf.proofs.Common.{◌≡◌, ◌-◌, numbered, e_phnum, program_header, program_headers, overlap}
use Rattle.rt_elf.proofs.program_headers.overlap.Given as goal

-- what the headers that are left have
abbrev pub invariant-loop-number : goal.invariant-loop-number
invariant-loop-number l = overlap (program_headers l.file) ≡ overlap (numbered (program_header l.file) l.number (e_phnum l.file - l.number))
