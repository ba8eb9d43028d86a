use Rattle.rt_elf.proofs.Common.{◌≡◌, ◌-◌, list_any, numbered, e_phnum, program_header, program_headers, has_bytes}
use Rattle.rt_elf.proofs.program_headers.any_has_bytes.Given as goal

-- what the headers that are left have
abbrev pub invariant-loop-number : goal.invariant-loop-number
invariant-loop-number l = list_any has_bytes (program_headers l.file) ≡ list_any has_bytes (numbered (program_header l.file) l.number (e_phnum l.file - l.number))
