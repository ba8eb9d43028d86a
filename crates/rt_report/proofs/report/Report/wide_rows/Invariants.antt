use Rattle.rt_report.proofs.Common.{◌≡◌, map, take, wide_row_at}
use Rattle.rt_report.proofs.report.Report.wide_rows.Given as goal

abbrev pub invariant-loop-tally : goal.invariant-loop-tally
invariant-loop-tally l = l.rows.items ≡ map (wide_row_at l.self.tick) (take l.tally-index l.self.tasks)
