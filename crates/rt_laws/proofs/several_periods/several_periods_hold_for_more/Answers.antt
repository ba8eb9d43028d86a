use Rattle.rt_laws.proofs.SeveralPeriods.{several-weaker}
use Rattle.rt_laws.proofs.several_periods.several_periods_hold_for_more.Goals as goal

pub returns : goal.returns
returns c = several-weaker
