use Rattle.rt_elf.proofs.Common.{◌≡◌, ◌-◌, max, numbered, e_phnum, program_header, program_headers, greatest_reach}
use Rattle.rt_elf.proofs.loading.image_size.Given as goal

-- the greatest reach so far, or that of a header that is left
abbrev pub invariant-loop-number : goal.invariant-loop-number
invariant-loop-number l = greatest_reach (program_headers l.file) ≡ max l.end (greatest_reach (numbered (program_header l.file) l.number (e_phnum l.file - l.number)))
