use Rattle.rt_laws.proofs.WorkLaws.{jobs_worked, open_worked, serving_worked}
use Rattle.rt_laws.proofs.laws.jobs_are_worked.Goals as goal

pub returns-clause-jobs : goal.returns-clause-jobs
returns-clause-jobs c = λ s own. jobs_worked s own

pub returns-clause-open_job : goal.returns-clause-open_job
returns-clause-open_job c = λ s own. open_worked s own

pub returns-clause-serving : goal.returns-clause-serving
returns-clause-serving c = λ s own. serving_worked s own
