use Rattle.rt_report.proofs.Common.{◌≡◌, map, take}
use Rattle.rt_report.proofs.report.Report.rows.Given as goal

abbrev pub invariant-loop-tally : goal.invariant-loop-tally
invariant-loop-tally l = l.rows.items ≡ map (λ x. x.row) (take l.tally-index l.self.tasks)
