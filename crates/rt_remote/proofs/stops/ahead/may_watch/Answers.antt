use Rattle.rt_remote.proofs.Common.{sym, ap, ◌∙◌, option_map, lent}
use Rattle.std.specs.List.{slice_get}
use Rattle.rt_remote.proofs.stops.PointLemmas.{shown_none, unshown_none}
use Rattle.rt_remote.proofs.stops.ahead.may_watch.Goals as goal

pub returns-in-Some : goal.returns-in-Some
returns-in-Some g c = λ none.
    shown_none c.in-Some.view (slice_get c.args.machine.now.tasks c.args.task) c.args.points.now c.args.task c.args.pc (sym (ap (option_map lent) c.in-Some.is) ∙ c.view.ensures.shown) (c.may_watch_in.ensures none c.args.task)

pub returns-in-None : goal.returns-in-None
returns-in-None g c = λ _.
    unshown_none (slice_get c.args.machine.now.tasks c.args.task) c.args.points.now c.args.task c.args.pc (sym (ap (option_map lent) c.in-None.is) ∙ c.view.ensures.shown)
