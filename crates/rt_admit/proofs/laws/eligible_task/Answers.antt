use Rattle.rt_admit.proofs.WeightLemmas.{eligible-share, eligible-whole, eligible-within}
use Rattle.rt_admit.proofs.laws.eligible_task.Goals as goal

pub returns-clause-within : goal.returns-clause-within
returns-clause-within c = eligible-within

pub returns-clause-whole : goal.returns-clause-whole
returns-clause-whole c = eligible-whole

pub returns-clause-share : goal.returns-clause-share
returns-clause-share c = eligible-share
