use Rattle.rt_report.proofs.Common.{◌≡◌, ℕ, List, Some, All, length, map, take, slice_get, ap, sym, subst, ◌∙◌, arith, take_all, TaskSet, legal, Row, rows, TaskReport, ReportState, report_at}
use Rattle.rt_report.proofs.ReportLaws.{rows_at}
use Rattle.rt_report.proofs.RowLaws.{no_row_late, row_hard}
use Rattle.rt_report.proofs.report.Report.rows.Goals as goal

-- the loop has found the rows of the legal history
all_found : (c : goal.After-loop-tally) (set : TaskSet) (t : ℕ) → c.args.self.now ≡ report_at set t → c.loop-tally.rows.items ≡ rows set (legal set t)
all_found c set t stands =
    let n = c.loop-tally.tally-index in
    let xs = c.args.self.now.tasks in
    let items : c.deref-tally-items.result.now ≡ xs = c.deref-tally-items.ensures.value ∙ ap (λ (r : ReportState). r.tasks) c.self.view_is in
    let count : length c.deref-tally-items.result.now ≡ length xs = ap length items in
    let all : take n xs ≡ xs = take_all n xs (omega (arith, count, c.loop-tally-test.false)) in
    c.loop-tally.invariant ∙ ap (map (λ (x : TaskReport). x.row)) all ∙ ap (λ (r : ReportState). map (λ x. x.row) r.tasks) stands ∙ rows_at set t

pub returns-clause-legal : goal.returns-clause-legal
returns-clause-legal c = all_found c

pub returns-clause-none_late : goal.returns-clause-none_late
returns-clause-none_late c = λ set t ok stands. subst (All (λ (r : Row). r.late ≡ 0)) (sym (all_found c set t stands)) (no_row_late set t ok)

pub returns-clause-periodic : goal.returns-clause-periodic
returns-clause-periodic c = λ set t i s r ok stands there found.
    row_hard set t i s r ok there (subst (λ (rs : List Row). slice_get rs i ≡ Some r) (all_found c set t stands) found)
