use Rattle.rt_core.proofs.Common.{◌≡◌, set_tasks, first_task_fault}
use Rattle.std.proofs.Common.{drop}
use Rattle.rt_core.proofs.loading.first_fault.Given as goal

abbrev pub invariant-loop-number : goal.invariant-loop-number
invariant-loop-number l = first_task_fault l.number (set_tasks (drop l.number l.tasks)) ≡ first_task_fault 0 (set_tasks l.tasks)
