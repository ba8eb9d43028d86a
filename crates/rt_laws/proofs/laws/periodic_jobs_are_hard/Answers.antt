use Rattle.rt_laws.proofs.Periods.{periodic_hard}
use Rattle.rt_laws.proofs.laws.periodic_jobs_are_hard.Goals as goal

pub returns : goal.returns
returns c = periodic_hard
