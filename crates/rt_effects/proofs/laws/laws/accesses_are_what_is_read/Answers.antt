use Rattle.rt_effects.proofs.laws.Moves.{reads-alike}
use Rattle.rt_effects.proofs.laws.laws.accesses_are_what_is_read.Goals as goal

pub returns : goal.returns
returns c = reads-alike
