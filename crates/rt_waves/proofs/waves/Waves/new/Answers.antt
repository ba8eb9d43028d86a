use Rattle.rt_waves.proofs.Common.{◌≡◌, List, ◌++◌, ◌∷◌, [], length, map, take, false, All, sym, ap, subst, ◌∙◌, length-map, set_tasks, TaskStanding, first_standing}
use Rattle.std.proofs.lemmas.List.{take_all}
use Rattle.rt_admit.specs.Admission.{IsEligible, IsRunnable}
use Rattle.rt_image.specs.declared.system.Task.{Task}
use Rattle.rt_image.specs.SystemFile.{set_task}
use Rattle.rt_history.specs.Admitted.{task_params}
use Rattle.rt_waves.proofs.NewLemmas.{eligible-of, first-tasks-more, sound-first, waves-first}
use Rattle.rt_waves.proofs.waves.Waves.new.Goals as goal

pub new-requires-in-loop-task-clause-positive : goal.new-requires-in-loop-task-clause-positive
new-requires-in-loop-task-clause-positive c =
    let h = c.args.runnable.now.hyper in
    let all : All (IsEligible h) (task_params (set_tasks c.args.tasks.now)) = subst (All (IsEligible h)) (sym c.requires) c.params-params.ensures.runnable.eligible in
    (eligible-of h c.loop-task.task-index c.args.tasks.now c.task-item.result all c.loop-task-test.true c.task-item.is).budgeted

pub new-requires-in-loop-task-clause-within : goal.new-requires-in-loop-task-clause-within
new-requires-in-loop-task-clause-within c =
    let h = c.args.runnable.now.hyper in
    let all : All (IsEligible h) (task_params (set_tasks c.args.tasks.now)) = subst (All (IsEligible h)) (sym c.requires) c.params-params.ensures.runnable.eligible in
    (eligible-of h c.loop-task.task-index c.args.tasks.now c.task-item.result all c.loop-task-test.true c.task-item.is).within

pub loop-task-preserved : goal.loop-task-preserved
loop-task-preserved c =
    let ts = c.args.tasks.now in
    let n = c.loop-task.task-index in
    c.in_ok-push.ensures.items
    ∙ ap (λ (xs : List TaskStanding). xs ++ c.in_ok-new.field-0 ∷ []) c.loop-task.invariant
    ∙ ap (λ (x : TaskStanding). map first_standing (set_tasks (take n ts)) ++ x ∷ []) c.in_ok-new.ensures
    ∙ sym (first-tasks-more ts n c.task-item.result c.loop-task-test.true c.task-item.is)

-- the loop has made what is kept of each task
all_made : (c : goal.After-loop-task) → c.loop-task.tracks.items ≡ map first_standing (set_tasks c.args.tasks.now)
all_made c =
    c.loop-task.invariant ∙ ap (λ (ts : List Task). map first_standing (set_tasks ts)) (take_all c.loop-task.task-index c.args.tasks.now c.loop-task-test.false)

pub invariant_of-result : goal.invariant_of-result
invariant_of-result c =
    let h = c.args.runnable.now.hyper in
    let ss = set_tasks c.args.tasks.now in
    let runnable : IsRunnable h (task_params ss) = subst (IsRunnable h) (sym c.requires) c.params-params.ensures.runnable in
    rw (all_made c) (sound-first h ss runnable, λ i is. absurd cc)

pub returns-clause-count : goal.returns-clause-count
returns-clause-count c = ap length (all_made c) ∙ length-map (set_tasks c.args.tasks.now) first_standing ∙ length-map c.args.tasks.now set_task

pub returns-clause-stands : goal.returns-clause-stands
returns-clause-stands c = λ set same.
    ap (λ (xs : List TaskStanding). record { from = c.args.from; tick = 0; idle = false; tasks = xs }) (all_made c)
    ∙ sym (waves-first set c.args.from (set_tasks c.args.tasks.now) same)
