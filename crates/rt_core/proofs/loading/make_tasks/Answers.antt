use Rattle.rt_core.proofs.Common.{List, [], ◌∷◌, ◌++◌, map, take, sym, ap, ◌∙◌, set_tasks, TaskState, first_task}
use Rattle.rt_history.proofs.Steps.{tasks_more}
use Rattle.rt_core.proofs.LoadingLemmas.{makeable_at}
use Rattle.rt_core.proofs.loading.make_tasks.Goals as goal

pub new-requires : goal.new-requires
new-requires g c = makeable_at c.args.tasks.now c.loop-task.task-index c.task-item.result c.requires c.loop-task-test.true c.task-item.is

pub loop-task-preserved : goal.loop-task-preserved
loop-task-preserved g c =
    c.in_ok-push.ensures.items
    ∙ ap (λ (made : List TaskState). made ++ c.in_ok-new.field-0 ∷ []) c.loop-task.invariant
    ∙ ap (λ (x : TaskState). map first_task (set_tasks (take c.loop-task.task-index c.args.tasks.now)) ++ x ∷ []) c.in_ok-new.ensures
    ∙ sym (tasks_more c.args.tasks.now c.loop-task.task-index c.task-item.result c.loop-task-test.true c.task-item.is)
