use Rattle.rt_walk.proofs.Common.{arith, sym, ap, ◌∙◌}
use Rattle.std.specs.Prelude.{◌&&◌, length}
use Rattle.rt_points.specs.declared.events.Event.TheVariants.{Over}
use Rattle.rt_walk.specs.Position.{stand_of}
use Rattle.rt_walk.specs.Events.{is_over_at}
use Rattle.rt_walk.proofs.EventLemmas.{one-more}
use Rattle.rt_walk.proofs.events.over_task.Goals as goal

pub loop-task-preserved : goal.loop-task-preserved
loop-task-preserved g c =
    let same = ap (λ m. length m.tasks) c.machine.ensures in
    c.loop-task.invariant
    ∙ one-more (λ i. g.A.Asks.asks c.args.asked.now Over i && is_over_at c.args.attempt.now (stand_of c.args.place.now) i) c.loop-task.task (length c.args.place.now.machine.tasks)
    (sym c.is_asked_over.ensures ∙ c.if-is_asked_over.false) (omega (arith, c.loop-task-test.true, c.count-task-end.ensures, same))
