use Rattle.rt_walk.proofs.JobLemmas.{at-begin, since-first}
use Rattle.rt_walk.proofs.laws.jobs_are_of_the_history.Goals as goal

pub returns-clause-begins : goal.returns-clause-begins
returns-clause-begins c = at-begin

pub returns-clause-legal : goal.returns-clause-legal
returns-clause-legal c = since-first
