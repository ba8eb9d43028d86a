use Rattle.rt_core.proofs.Common.{◌≡◌, ◌++◌, ◌-◌, length, map, take, replicate, None, set_tasks, start_key}
use Rattle.rt_core.proofs.loading.set_timers.Given as goal

abbrev pub invariant-loop-number : goal.invariant-loop-number
invariant-loop-number g l = g.Q.MinQueue.keys l.timers ≡ take l.number (map start_key (set_tasks l.tasks)) ++ replicate (length l.tasks - l.number) None
