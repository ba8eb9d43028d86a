use Rattle.rt_remote.proofs.Common.{sym, ◌∙◌, lent}
use Rattle.rt_remote.proofs.stops.PointLemmas.{word_none, no_access_none}
use Rattle.rt_remote.proofs.stops.ahead.may_watch_in.Goals as goal

pub returns-then-not-may_access : goal.returns-then-not-may_access
returns-then-not-may_access c = λ none task.
    word_none (lent c.args.view.now) c.args.points.now task c.args.pc c.in-Some.word (sym c.word_at.ensures ∙ c.in-Some.is)
    (no_access_none c.args.points.now task c.in-Some.word c.args.view.now.x.now (c.may_access.ensures c.if-not-may_access.true c.args.view.now.x.now))

pub returns : goal.returns
returns c = λ untouched task.
    word_none (lent c.args.view.now) c.args.points.now task c.args.pc c.in-Some.word (sym c.word_at.ensures ∙ c.in-Some.is) (c.may_touch.ensures untouched task)
