use Rattle.rt_remote.proofs.stops.PointLemmas.{none_on}
use Rattle.rt_remote.proofs.stops.looks.AskingHalt.may_meet.Goals as goal

pub returns : goal.returns
returns g c = λ unmet.
    none_on c.args.self.now.way c.args.task c.args.pc c.args.machine.now (c.may_meet.ensures.breaks unmet) (c.may_meet.ensures.watches unmet)
