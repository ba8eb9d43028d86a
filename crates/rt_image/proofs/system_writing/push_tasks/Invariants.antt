use Rattle.rt_image.proofs.Common.{◌≡◌, ◌++◌, take, flat_map, set_tasks, task_spelling}
use Rattle.rt_image.proofs.system_writing.push_tasks.Given as goal

abbrev pub invariant-loop-task : goal.invariant-loop-task
invariant-loop-task l = l.out.items ≡ l.fn.out.items ++ flat_map (task_spelling l.version) (set_tasks (take l.task-index l.tasks))
