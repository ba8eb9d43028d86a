use Rattle.rt_report.proofs.Common.{◌≡◌, take, first_reports}
use Rattle.rt_report.proofs.report.Report.new.Given as goal

abbrev pub invariant-loop-task : goal.invariant-loop-task
invariant-loop-task l = l.tasks.items ≡ first_reports (take l.task l.params)
