use Rattle.rt_elf.proofs.Common.{◌≡◌, ◌-◌, list_any, numbered, e_phnum, program_header, share}
use Rattle.rt_elf.proofs.program_headers.shares_later.Given as goal

-- what the headers that are left have
abbrev pub invariant-loop-number : goal.invariant-loop-number
invariant-loop-number l = list_any (share l.header) (numbered (program_header l.file) l.from (e_phnum l.file - l.from)) ≡ list_any (share l.header) (numbered (program_header l.file) l.number (e_phnum l.file - l.number))
