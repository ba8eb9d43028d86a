use Rattle.rt_laws.proofs.SeveralPeriods.{several_long, several_within, several_open}
use Rattle.rt_laws.proofs.several_periods.jobs_of_several_periods_are_in_time.Goals as goal

pub returns-clause-long : goal.returns-clause-long
returns-clause-long c = several_long

pub returns-clause-finished : goal.returns-clause-finished
returns-clause-finished c = several_within

pub returns-clause-open_job : goal.returns-clause-open_job
returns-clause-open_job c = several_open
