use Rattle.rt_walk.proofs.Common.{arith, sym, ◌∙◌}
use Rattle.std.specs.Prelude.{◌&&◌, length}
use Rattle.rt_points.specs.declared.events.Event.TheVariants.{Wake}
use Rattle.rt_walk.specs.Events.{stands}
use Rattle.rt_walk.proofs.EventLemmas.{one-more}
use Rattle.rt_walk.proofs.events.least_woken.Goals as goal

pub loop-task-preserved : goal.loop-task-preserved
loop-task-preserved g c =
    c.loop-task.invariant
    ∙ one-more (λ i. g.A.Asks.asks c.args.asked.now Wake i && stands c.args.until c.args.machine.now i) c.loop-task.task (length c.args.machine.now.tasks)
    (sym c.is_woken.ensures ∙ c.if-is_woken.false) (omega (arith, c.loop-task-test.true, c.count-task-end.ensures))
