use Rattle.rt_queue.proofs.LeastLemmas.{least_from-is_least, IsLeast-of_least_from}
use Rattle.rt_queue.proofs.laws.least_from_is_least.Goals as goal

pub returns : goal.returns
returns c = λ keys found. (least_from-is_least keys found, IsLeast-of_least_from keys found)
