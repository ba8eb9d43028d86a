use Rattle.rt_elf.proofs.ToldLemmas.{are_told}
use Rattle.rt_elf.proofs.laws.kept_symbols_are_told.Goals as goal

pub returns : goal.returns
returns c = are_told
