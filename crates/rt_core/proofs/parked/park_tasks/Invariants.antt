use Rattle.rt_core.proofs.Common.{◌≡◌, take}
use Rattle.rt_core.proofs.parked.park_tasks.Given as goal

abbrev pub invariant-loop-task : goal.invariant-loop-task
invariant-loop-task g l = l.parked.items ≡ take l.task-index l.tasks
