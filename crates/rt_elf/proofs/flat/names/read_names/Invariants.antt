use Rattle.rt_elf.proofs.Common.{◌≡◌, ◌+◌, ◌<◌, ◌≤◌, length, name_lines, names_from, named, entry_labels, AreListed}
use Rattle.rt_elf.specs.flat.FlatNames.{names_of}
use Rattle.rt_elf.proofs.flat.names.read_names.Given as goal

-- the lines that are left, read behind those so far, are the lines of the text
abbrev pub invariant-loop-rest : goal.invariant-loop-rest
invariant-loop-rest l = record {
  counted : l.number + length l.rest ≤ length l.text + 1;
  few : l.names.left_out < l.number;
  listed : AreListed l.size (entry_labels l.names.symbols.entries);
  same : names_of l.size l.text ≡ names_from l.size l.number (named l.names) (name_lines l.rest);
}

abbrev pub decreases-loop-rest : goal.decreases-loop-rest
decreases-loop-rest l = length l.rest
