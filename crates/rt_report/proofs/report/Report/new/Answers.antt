use Rattle.rt_report.proofs.Common.{◌≡◌, List, [], ◌∷◌, ◌++◌, length, take, sym, ap, ◌∙◌, arith, take_all, TaskReport, first_reports}
use Rattle.rt_report.proofs.SoundLemmas.{sound_first, count_first}
use Rattle.rt_report.proofs.ReportLaws.{report_first, first_reports-more}
use Rattle.rt_report.proofs.report.Report.new.Goals as goal

-- the loop has made what is kept of each task
all_made : (c : goal.After-loop-task) → c.loop-task.tasks.items ≡ first_reports c.args.runnable.now.tasks
all_made c =
    let ps = c.params-params.result.now in
    let all : take c.loop-task.task ps ≡ ps = take_all c.loop-task.task ps (omega (arith, c.loop-task-test.false)) in
    c.loop-task.invariant ∙ ap (first_reports) (all ∙ c.params-params.ensures.value)

pub loop-task-preserved : goal.loop-task-preserved
loop-task-preserved c =
    let ps = c.params-params.result.now in
    let n = c.loop-task.task in
    c.in_ok-push.ensures.items ∙ ap (λ (xs : List TaskReport). xs ++ c.new.result ∷ []) c.loop-task.invariant
    ∙ ap (λ (x : TaskReport). first_reports (take n ps) ++ x ∷ []) c.new.ensures
    ∙ sym (first_reports-more n ps (record { budget = 0; period = 0; start = 0 }) c.loop-task-test.true)

pub invariant_of-result : goal.invariant_of-result
invariant_of-result c =
    let ps = c.args.runnable.now.tasks in
    rw (all_made c) (sound_first c.args.runnable.now.hyper ps c.params-params.ensures.runnable)

pub returns-clause-count : goal.returns-clause-count
returns-clause-count c = ap length (all_made c) ∙ count_first c.args.runnable.now.tasks

pub returns-clause-stands : goal.returns-clause-stands
returns-clause-stands c = λ set same.
    ap (λ (xs : List TaskReport). record { tick = 0; idle = 0; tasks = xs }) (all_made c) ∙ sym (report_first set c.args.runnable.now.tasks same)
