use Rattle.rt_elf.proofs.Common.{◌≡◌, ◌-◌, ◌≤◌, base, numbered, e_phnum, program_header, byte_for, image_size}
use Rattle.rt_elf.proofs.loading.fill.Given as goal

-- the bytes of the headers from this number on
abbrev pub invariant-loop-number : goal.invariant-loop-number
invariant-loop-number l = record {
  within : l.number ≤ e_phnum l.file;
  bytes : l.image ≡ numbered (byte_for l.file (numbered (program_header l.file) l.number (e_phnum l.file - l.number))) base (image_size l.file);
}

abbrev pub decreases-loop-number : goal.decreases-loop-number
decreases-loop-number l = l.number
