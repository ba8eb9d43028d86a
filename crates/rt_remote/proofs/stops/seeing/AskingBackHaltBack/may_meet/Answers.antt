use Rattle.rt_remote.proofs.stops.PointLemmas.{none_left}
use Rattle.rt_remote.proofs.stops.seeing.AskingBackHaltBack.may_meet.Goals as goal

pub returns-clause-left : goal.returns-clause-left
returns-clause-left g c = λ unmet.
    none_left c.args.self.now.way c.args.task c.args.pc c.args.machine.now (c.may_meet.ensures.watches unmet)
