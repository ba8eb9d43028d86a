use Rattle.rt_elf.proofs.flat.KeptLemmas.{are_those}
use Rattle.rt_elf.proofs.flat.laws.symbols_are_those_of_the_lines.Goals as goal

pub returns : goal.returns
returns c = are_those
