use Rattle.rt_walk.proofs.Common.{◌≡◌}
use Rattle.std.specs.Prelude.{map, take}
use Rattle.rt_walk.specs.Jobs.{first_job}
use Rattle.rt_walk.proofs.jobs.Jobs.begin.Given as goal

abbrev pub invariant-loop-task : goal.invariant-loop-task
invariant-loop-task g l = l.jobs.items ≡ map (first_job l.machine.tick) (take l.task l.machine.tasks)
