use Rattle.rt_laws.proofs.Certificates.{certified_finished, certified_open}
use Rattle.rt_laws.proofs.certified.certified_jobs_are_in_time.Goals as goal

pub returns-clause-finished : goal.returns-clause-finished
returns-clause-finished c = certified_finished

pub returns-clause-open_job : goal.returns-clause-open_job
returns-clause-open_job c = certified_open
