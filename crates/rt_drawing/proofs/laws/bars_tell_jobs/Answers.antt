use Rattle.rt_drawing.proofs.BarLaws.{last-told}
use Rattle.rt_drawing.proofs.JobLaws.{turns-listed}
use Rattle.rt_drawing.proofs.laws.bars_tell_jobs.Goals as goal

pub returns-clause-last : goal.returns-clause-last
returns-clause-last c = last-told

pub returns-clause-listed : goal.returns-clause-listed
returns-clause-listed c = turns-listed
