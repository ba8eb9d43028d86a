use Rattle.rt_laws.proofs.SeveralPeriods.{one_period}
use Rattle.rt_laws.proofs.several_periods.one_period_is_a_certificate.Goals as goal

pub returns : goal.returns
returns c = one_period
