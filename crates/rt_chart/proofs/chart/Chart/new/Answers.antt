use Rattle.rt_chart.proofs.Common.{◌≡◌, List, ◌++◌, ◌∷◌, [], length, take, All, sym, ap, subst, ◌∙◌, take_all, length-map, TaskDrawing}
use Rattle.rt_admit.specs.Admission.{IsEligible, IsRunnable}
use Rattle.rt_image.specs.declared.system.Task.{Task}
use Rattle.rt_image.specs.SystemFile.{set_task, set_tasks}
use Rattle.rt_history.specs.Admitted.{task_params}
use Rattle.rt_chart.proofs.SoundLemmas.{eligible-of, first_drawings, length-first, first-more, sound_first}
use Rattle.rt_chart.proofs.ChartLaws.{chart_first}
use Rattle.rt_chart.proofs.chart.Chart.new.Goals as goal

pub new-requires-clause-positive : goal.new-requires-clause-positive
new-requires-clause-positive c =
    let h = c.args.runnable.now.hyper in
    let all : All (IsEligible h) (task_params (set_tasks c.args.tasks.now)) = subst (All (IsEligible h)) (sym c.requires.params) c.params-params.ensures.runnable.eligible in
    (eligible-of h c.loop-number.number c.args.tasks.now c.index-tasks-number.result all c.loop-number-test.true c.index-tasks-number.is).budgeted

pub new-requires-clause-within : goal.new-requires-clause-within
new-requires-clause-within c =
    let h = c.args.runnable.now.hyper in
    let all : All (IsEligible h) (task_params (set_tasks c.args.tasks.now)) = subst (All (IsEligible h)) (sym c.requires.params) c.params-params.ensures.runnable.eligible in
    (eligible-of h c.loop-number.number c.args.tasks.now c.index-tasks-number.result all c.loop-number-test.true c.index-tasks-number.is).within

pub loop-number-preserved : goal.loop-number-preserved
loop-number-preserved c =
    let ts = c.args.tasks.now in
    let n = c.loop-number.number in
    c.in_ok-push.ensures.items
    ∙ ap (λ (xs : List TaskDrawing). xs ++ c.new.result ∷ []) c.loop-number.invariant
    ∙ ap (λ (x : TaskDrawing). first_drawings c.args.except.now 0 (set_tasks (take n ts)) ++ x ∷ []) c.new.ensures
    ∙ sym (first-more c.args.except.now ts n c.index-tasks-number.result c.loop-number-test.true c.index-tasks-number.is)

-- the loop has made what is kept of each task
all_made : (c : goal.After-loop-number) → c.loop-number.sketches.items ≡ first_drawings c.args.except.now 0 (set_tasks c.args.tasks.now)
all_made c =
    c.loop-number.invariant ∙ ap (λ (ts : List Task). first_drawings c.args.except.now 0 (set_tasks ts)) (take_all c.loop-number.number c.args.tasks.now c.loop-number-test.false)

pub invariant_of-result : goal.invariant_of-result
invariant_of-result c =
    let h = c.args.runnable.now.hyper in
    let ss = set_tasks c.args.tasks.now in
    let admitted : IsRunnable h (task_params ss) = subst (IsRunnable h) (sym c.requires.params) c.params-params.ensures.runnable in
    rw (all_made c) (sound_first c.args.window c.args.style c.args.except.now h ss admitted)

pub returns-clause-count : goal.returns-clause-count
returns-clause-count c = ap length (all_made c) ∙ length-first c.args.except.now 0 (set_tasks c.args.tasks.now) ∙ length-map c.args.tasks.now set_task

pub returns-clause-stands : goal.returns-clause-stands
returns-clause-stands c = λ set same.
    ap (λ (xs : List TaskDrawing). record { window = c.args.window; style = c.args.style; tick = 0; tasks = xs }) (all_made c)
    ∙ sym (chart_first c.args.window c.args.style c.args.except.now set (set_tasks c.args.tasks.now) same)
