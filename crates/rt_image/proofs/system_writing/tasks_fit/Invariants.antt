use Rattle.rt_image.proofs.Common.{drop, set_tasks}
use Rattle.rt_image.specs.SystemFile.{AreTasks}
use Rattle.rt_image.proofs.system_writing.tasks_fit.Given as goal

abbrev pub invariant-loop-task : goal.invariant-loop-task
invariant-loop-task l = record {
  from_rest : AreTasks l.version (set_tasks (drop l.task-index l.tasks)) → AreTasks l.version (set_tasks l.tasks);
  to_rest : AreTasks l.version (set_tasks l.tasks) → AreTasks l.version (set_tasks (drop l.task-index l.tasks));
}
