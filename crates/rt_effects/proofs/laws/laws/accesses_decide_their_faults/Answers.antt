use Rattle.rt_effects.proofs.laws.Decides.{accesses-decide}
use Rattle.rt_effects.proofs.laws.laws.accesses_decide_their_faults.Goals as goal

pub returns : goal.returns
returns c = accesses-decide
