use Rattle.rt_report.proofs.Common.{◌∙◌}
use Rattle.rt_report.proofs.WaitingLaws.{counted-none}
use Rattle.rt_report.proofs.lazy_tally.LazyTally.new.Goals as goal

pub returns : goal.returns
returns c = counted-none c.new.result ∙ c.new.ensures
