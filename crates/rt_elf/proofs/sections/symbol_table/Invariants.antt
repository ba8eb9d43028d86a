use Rattle.rt_elf.proofs.Common.{◌≡◌, ◌-◌, find, numbered, e_shnum, section_header, symbol_table, is_symbol_table}
use Rattle.rt_elf.proofs.sections.symbol_table.Given as goal

-- it is the first of the headers that are left
abbrev pub invariant-loop-number : goal.invariant-loop-number
invariant-loop-number l = symbol_table l.file ≡ find is_symbol_table (numbered (section_header l.file) l.number (e_shnum l.file - l.number))
