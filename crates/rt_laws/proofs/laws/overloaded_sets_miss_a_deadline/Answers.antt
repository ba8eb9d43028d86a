use Rattle.rt_laws.proofs.BusyTasks.{one_misses}
use Rattle.rt_laws.proofs.laws.overloaded_sets_miss_a_deadline.Goals as goal

pub returns : goal.returns
returns c = one_misses
