use Rattle.rt_remote.proofs.Common.{sym, ◌∙◌}
use Rattle.rt_history.specs.declared.record.Record.TheVariants.{Busy}
use Rattle.rt_walk.specs.Position.{stand_of}
use Rattle.rt_remote.proofs.stops.EventLemmas.{done-alone, on-none}
use Rattle.rt_remote.proofs.stops.looks.AnywhereHalt.look_behind.Goals as goal

pub returns : goal.returns
returns g c = λ m _.
    let way = c.args.self.now.way in
    done-alone way.actions.now way.events.now m (Busy c.args.attempt.now) (stand_of c.args._place.now)
    (on-none way.actions.now way.events.now m (Busy c.args.attempt.now) (stand_of c.args._place.now) c.args.self.now.unasked)
    ∙ sym c.done_by.ensures
