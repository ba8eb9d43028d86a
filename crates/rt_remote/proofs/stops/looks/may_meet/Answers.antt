use Rattle.rt_remote.proofs.Common.{sym, ◌∙◌}
use Rattle.rt_remote.proofs.stops.PointLemmas.{none_watched, unwatched_none}
use Rattle.rt_remote.proofs.stops.looks.may_meet.Goals as goal

pub returns-then-not-watches-clause-watches : goal.returns-then-not-watches-clause-watches
returns-then-not-watches-clause-watches g c = λ _.
    none_watched c.args.points.now c.args.task c.args.pc c.args.machine.now (sym c.requires ∙ c.if-not-watches.true)

pub returns-clause-watches : goal.returns-clause-watches
returns-clause-watches g c = λ unmet.
    unwatched_none c.args.points.now c.args.task c.args.pc c.args.machine.now (c.may_watch.ensures unmet)
