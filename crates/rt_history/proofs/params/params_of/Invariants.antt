use Rattle.rt_history.proofs.Common.{◌≡◌, take}
use Rattle.rt_image.specs.SystemFile.{set_tasks}
use Rattle.rt_history.specs.Admitted.{task_params}
use Rattle.rt_history.proofs.params.params_of.Given as goal

abbrev pub invariant-loop-task : goal.invariant-loop-task
invariant-loop-task l = l.params.items ≡ task_params (set_tasks (take l.task-index l.tasks))
