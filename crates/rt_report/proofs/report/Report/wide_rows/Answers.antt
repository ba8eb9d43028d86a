use Rattle.rt_report.proofs.Common.{◌≡◌, length, map, take, ap, ◌∙◌, arith, take_all, ReportState, wide_row_at}
use Rattle.rt_report.proofs.ReportLaws.{wide_rows_at}
use Rattle.rt_report.proofs.report.Report.wide_rows.Goals as goal

-- the loop has found the wide row of each task
all_found : (c : goal.After-loop-tally) → c.loop-tally.rows.items ≡ map (wide_row_at c.args.self.now.tick) c.args.self.now.tasks
all_found c =
    let n = c.loop-tally.tally-index in
    let xs = c.args.self.now.tasks in
    let items : c.deref-tally-items.result.now ≡ xs = c.deref-tally-items.ensures.value ∙ ap (λ (r : ReportState). r.tasks) c.self.view_is in
    let count : length c.deref-tally-items.result.now ≡ length xs = ap length items in
    let all : take n xs ≡ xs = take_all n xs (omega (arith, count, c.loop-tally-test.false)) in
    c.loop-tally.invariant ∙ ap (map (wide_row_at c.args.self.now.tick)) all

pub returns-clause-value : goal.returns-clause-value
returns-clause-value c = all_found c

pub returns-clause-legal : goal.returns-clause-legal
returns-clause-legal c = λ set t stands. all_found c ∙ ap (λ (r : ReportState). map (wide_row_at r.tick) r.tasks) stands ∙ wide_rows_at set t
