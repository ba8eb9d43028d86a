use Rattle.rt_core.proofs.Common.{◌≡◌, take}
use Rattle.rt_core.proofs.parked.resume_tasks.Given as goal

abbrev pub invariant-loop-task : goal.invariant-loop-task
invariant-loop-task g l = l.tasks.items ≡ take l.task-index l.parked
