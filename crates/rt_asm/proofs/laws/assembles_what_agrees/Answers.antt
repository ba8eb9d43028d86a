use Rattle.rt_asm.proofs.LawLemmas.{assembles}
use Rattle.rt_asm.proofs.laws.assembles_what_agrees.Goals as goal

pub returns : goal.returns
returns c = assembles
