use Rattle.rt_history.specs.declared.record.Record.TheVariants.{Idle}
use Rattle.rt_walk.specs.Position.{stand_of}
use Rattle.rt_remote.proofs.stops.EventLemmas.{on-none}
use Rattle.rt_remote.proofs.stops.looks.AnywhereHalt.look_risen.Goals as goal

pub returns : goal.returns
returns g c = λ m. on-none c.args.self.now.way.actions.now c.args.self.now.way.events.now m Idle (stand_of c.args._place.now) c.args.self.now.unasked
