use Rattle.rt_walk.proofs.Common.{◌≡◌, ◌-◌}
use Rattle.std.specs.Prelude.{◌&&◌, length}
use Rattle.rt_points.specs.declared.events.Event.TheVariants.{Over}
use Rattle.rt_walk.specs.Position.{stand_of}
use Rattle.rt_walk.specs.Events.{is_over_at, least_such, over_task}
use Rattle.rt_walk.proofs.events.over_task.Given as goal

abbrev pub invariant-loop-task : goal.invariant-loop-task
invariant-loop-task g l =
    over_task (g.A.Asks.asks l.asked) l.attempt (stand_of l.place)
    ≡ least_such (λ i. g.A.Asks.asks l.asked Over i && is_over_at l.attempt (stand_of l.place) i) l.task (length l.place.machine.tasks - l.task)
