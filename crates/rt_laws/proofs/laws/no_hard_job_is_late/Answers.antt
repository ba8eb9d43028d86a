use Rattle.rt_laws.proofs.Lateness.{none_late}
use Rattle.rt_laws.proofs.laws.no_hard_job_is_late.Goals as goal

pub returns : goal.returns
returns c = none_late
