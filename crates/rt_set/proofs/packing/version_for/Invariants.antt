use Rattle.std.proofs.Common.{◌≡◌, drop}
use Rattle.rt_image.specs.SystemFile.{set_tasks}
use Rattle.rt_set.specs.Packing.{version_for}
use Rattle.rt_set.proofs.packing.version_for.Given as goal

abbrev pub invariant-loop-task : goal.invariant-loop-task
invariant-loop-task l = version_for (set_tasks (drop l.task-index l.tasks)) ≡ version_for (set_tasks l.tasks)
