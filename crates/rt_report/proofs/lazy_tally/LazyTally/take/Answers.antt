use Rattle.rt_report.proofs.Common.{ap, ◌∙◌, tallied}
use Rattle.rt_report.proofs.WaitingLaws.{counted-none}
use Rattle.rt_report.proofs.lazy_tally.LazyTally.take.Goals as goal

pub returns : goal.returns
returns c = counted-none c.take.new.self ∙ c.take.ensures ∙ ap (tallied c.args.u c.args.outcome) (c.count.ensures ∙ c.self.view_is)
