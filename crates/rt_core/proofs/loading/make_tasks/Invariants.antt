use Rattle.rt_core.proofs.Common.{◌≡◌, map, take, set_tasks, first_task}
use Rattle.rt_core.proofs.loading.make_tasks.Given as goal

abbrev pub invariant-loop-task : goal.invariant-loop-task
invariant-loop-task g l = l.made.items ≡ map first_task (set_tasks (take l.task-index l.tasks))
