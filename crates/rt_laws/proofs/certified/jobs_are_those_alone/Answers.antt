use Rattle.rt_laws.proofs.Plans.{jobs_alone}
use Rattle.rt_laws.proofs.certified.jobs_are_those_alone.Goals as goal

pub returns : goal.returns
returns c = jobs_alone
