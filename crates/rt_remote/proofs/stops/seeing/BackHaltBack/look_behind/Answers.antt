use Rattle.rt_walk.specs.Position.{stand_of}
use Rattle.rt_remote.proofs.stops.EventLemmas.{meets-none}
use Rattle.rt_remote.proofs.stops.seeing.BackHaltBack.look_behind.Goals as goal

pub returns : goal.returns
returns g c = λ m _.
    let h = c.args.self.now in
    meets-none h.way m c.args._entry.now (stand_of c.args._place.now) h.unasked
