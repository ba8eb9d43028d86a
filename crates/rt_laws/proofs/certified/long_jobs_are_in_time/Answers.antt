use Rattle.rt_laws.proofs.LongBounds.{long_within, long_open}
use Rattle.rt_laws.proofs.certified.long_jobs_are_in_time.Goals as goal

pub returns-clause-finished : goal.returns-clause-finished
returns-clause-finished c = long_within

pub returns-clause-open_job : goal.returns-clause-open_job
returns-clause-open_job c = long_open
