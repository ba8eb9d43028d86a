use Rattle.rt_asm.proofs.LawLemmas.{one_placement}
use Rattle.rt_asm.proofs.laws.one_placement.Goals as goal

pub returns : goal.returns
returns c = one_placement
