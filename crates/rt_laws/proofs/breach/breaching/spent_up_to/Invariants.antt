use Rattle.rt_laws.proofs.Common.{◌≡◌, take, weight_of}
use Rattle.std.proofs.Common.{sum_by}
use Rattle.rt_laws.proofs.breach.breaching.spent_up_to.Given as goal

abbrev pub invariant-loop-task : goal.invariant-loop-task
invariant-loop-task l = l.total ≡ sum_by (weight_of l.tick) (take l.task-index l.params)
