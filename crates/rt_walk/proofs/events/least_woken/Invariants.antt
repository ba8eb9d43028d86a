use Rattle.rt_walk.proofs.Common.{◌≡◌, ◌-◌}
use Rattle.std.specs.Prelude.{◌&&◌, length}
use Rattle.rt_points.specs.declared.events.Event.TheVariants.{Wake}
use Rattle.rt_walk.specs.Events.{stands, least_such, least_woken}
use Rattle.rt_walk.proofs.events.least_woken.Given as goal

abbrev pub invariant-loop-task : goal.invariant-loop-task
invariant-loop-task g l =
    least_woken (g.A.Asks.asks l.asked) l.until l.machine
    ≡ least_such (λ i. g.A.Asks.asks l.asked Wake i && stands l.until l.machine i) l.task (length l.machine.tasks - l.task)
