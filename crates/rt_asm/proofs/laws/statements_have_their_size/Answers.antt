use Rattle.rt_asm.proofs.LawLemmas.{size_is}
use Rattle.rt_asm.proofs.laws.statements_have_their_size.Goals as goal

pub returns : goal.returns
returns c = size_is
