use Rattle.rt_isa.proofs.Words.{one_word}
use Rattle.rt_isa.proofs.laws.one_word.Goals as goal

pub returns : goal.returns
returns c = one_word
