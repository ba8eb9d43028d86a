use Rattle.rt_core.proofs.Common.{◌≡◌, map, woken_task, wake_at, count_some}
use Rattle.rt_core.proofs.machine.Machine.wake_all.Given as goal

abbrev pub invariant-loop : goal.invariant-loop
invariant-loop g l =
    (map (woken_task l.initial.self.tick) l.self.tasks ≡ map (woken_task l.initial.self.tick) l.initial.self.tasks)
    × (l.self ≡ record l.initial.self { tasks = l.self.tasks })

abbrev pub decreases-loop : goal.decreases-loop
decreases-loop g l = count_some (map wake_at l.self.tasks)
