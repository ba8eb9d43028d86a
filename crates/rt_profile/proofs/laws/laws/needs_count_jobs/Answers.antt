use Rattle.rt_profile.proofs.laws.NeedSums.{jobs-counted, last-counted}
use Rattle.rt_profile.proofs.laws.laws.needs_count_jobs.Goals as goal

pub returns-clause-sum : goal.returns-clause-sum
returns-clause-sum c = jobs-counted

pub returns-clause-last : goal.returns-clause-last
returns-clause-last c = last-counted
