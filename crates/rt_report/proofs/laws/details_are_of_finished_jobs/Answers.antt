use Rattle.rt_report.proofs.DetailLaws.{details_same}
use Rattle.rt_report.proofs.laws.details_are_of_finished_jobs.Goals as goal

pub returns : goal.returns
returns c = details_same
