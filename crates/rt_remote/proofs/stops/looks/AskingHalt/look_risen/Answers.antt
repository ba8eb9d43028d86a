use Rattle.rt_remote.proofs.Common.{Option, sym, ap, ◌∙◌, option_map}
use Rattle.rt_walk.specs.declared.events.Happening.{Happening}
use Rattle.rt_remote.specs.stops.Ahead.{happened}
use Rattle.rt_remote.proofs.stops.looks.AskingHalt.look_risen.Goals as goal

pub returns : goal.returns
returns g c = λ m. ap (λ (o : Option Happening). option_map happened o) (c.happens_idle.ensures m) ∙ sym c.happened.ensures
