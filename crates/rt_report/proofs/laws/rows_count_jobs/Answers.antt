use Rattle.rt_report.proofs.LineRowLaws.{rows_counted}
use Rattle.rt_report.proofs.laws.rows_count_jobs.Goals as goal

pub returns : goal.returns
returns c = rows_counted
