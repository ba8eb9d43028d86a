use Rattle.rt_waves.proofs.Common.{ℕ, ◌<◌, get_or, TaskStanding, WakesFrom}
use Rattle.rt_waves.proofs.visiting.least_wake.Given as goal

abbrev pub invariant-loop-task : goal.invariant-loop-task
invariant-loop-task l = (k : ℕ) (d : TaskStanding) → k < l.task-index → WakesFrom l.least (get_or l.tasks k d)
