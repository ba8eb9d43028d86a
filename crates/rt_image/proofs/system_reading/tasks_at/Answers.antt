use Rattle.rt_image.proofs.Common.{◌≡◌, ◌++◌, ◌∷◌, [], set_task, set_tasks, tasks_at}
use Rattle.std.proofs.lemmas.Result.{err_from_is_err_and}
use Rattle.std.proofs.lemmas.List.{map_push}
use Rattle.rt_image.proofs.TaskLoop.{goes_on, fails, is_done}
use Rattle.rt_image.proofs.system_reading.tasks_at.Goals as goal

pub loop-preserved : goal.loop-preserved
loop-preserved c =
    let t = c.in_ok-task.task in
    let e : set_tasks c.push.new.self.items ≡ set_tasks c.loop.tasks.items ++ set_task t ∷ [] = rw c.in_ok-push.ensures.items (map_push _ c.loop.tasks.items t) in
    rw e (goes_on c.args.version (set_tasks c.loop.tasks.items) c.args.count c.loop.counter c.loop.rest.now (set_task t) c.in_ok-task.after.now (tasks_at c.args.version c.args.count c.args.bytes.now) c.loop-test.true c.in_ok-task.ensures c.loop.invariant)

pub returns : goal.returns
returns c = is_done c.args.version (set_tasks c.loop.tasks.items) c.args.count c.loop.counter c.loop.rest.now (tasks_at c.args.version c.args.count c.args.bytes.now) c.loop-test.false c.loop.invariant

pub returns-in_err-task : goal.returns-in_err-task
returns-in_err-task c =
    let p = err_from_is_err_and c.from_residual.result c.from_residual.ensures.1 in
    rw (p.1, p.2) (fails c.args.version c.in_err-task.field-0.0 (set_tasks c.loop.tasks.items) c.args.count c.loop.counter c.loop.rest.now (tasks_at c.args.version c.args.count c.args.bytes.now) c.loop-test.true c.in_err-task.ensures c.loop.invariant)
