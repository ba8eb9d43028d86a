use Rattle.rt_history.specs.declared.record.Record.TheVariants.{Idle}
use Rattle.rt_walk.specs.Position.{stand_of}
use Rattle.rt_remote.proofs.stops.EventLemmas.{on-alone}
use Rattle.rt_remote.proofs.stops.looks.NowhereHalt.look_risen.Goals as goal

pub returns : goal.returns
returns g c = λ m. on-alone c.args.self.now.way _ m Idle (stand_of c.args._place.now) c.args.self.now.alone
