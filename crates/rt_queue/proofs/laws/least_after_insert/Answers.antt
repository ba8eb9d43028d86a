use Rattle.rt_queue.proofs.LeastLemmas.{IsLeast-set}
use Rattle.rt_queue.proofs.laws.least_after_insert.Goals as goal

pub returns : goal.returns
returns c = IsLeast-set
