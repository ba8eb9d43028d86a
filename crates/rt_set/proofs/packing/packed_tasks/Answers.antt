use Rattle.std.proofs.Common.{◌≡◌, ◌+◌, ◌++◌, ◌∷◌, [], drop, subst}
use Rattle.std.specs.Prelude.{map}
use Rattle.std.proofs.lemmas.Result.{err_from_is_err_and}
use Rattle.std.proofs.lemmas.List.{map_push, drop_all}
use Rattle.rt_image.specs.SystemFile.{set_task, set_tasks}
use Rattle.rt_set.specs.Packing.{pack_entry, packed_tasks}
use Rattle.rt_set.proofs.PackLoop.{with_front, goes_on, fails, is_done, rest_at}
use Rattle.rt_set.proofs.packing.packed_tasks.Goals as goal

pub loop-task-preserved : goal.loop-task-preserved
loop-task-preserved c =
    let t = c.in_ok-task.task in
    let p = c.task-item.result in
    let i = c.loop-task.task-index in
    let ts = c.args.tasks.now in
    let e : set_tasks c.push.new.self.items ≡ set_tasks c.loop-task.packed.items ++ set_task t ∷ [] = rw c.in_ok-push.ensures.items (map_push _ c.loop-task.packed.items t) in
    let rest : drop i ts ≡ p ∷ drop (i + 1) ts = rest_at ts i p c.loop-task-test.true c.task-item.is in
    let so_far : with_front (set_tasks c.loop-task.packed.items) (packed_tasks (pack_entry p ∷ map pack_entry (drop (i + 1) ts))) ≡ packed_tasks (map pack_entry ts) =
    subst (λ l. with_front (set_tasks c.loop-task.packed.items) (packed_tasks (map pack_entry l)) ≡ packed_tasks (map pack_entry ts)) rest c.loop-task.invariant in
    rw e (goes_on (set_tasks c.loop-task.packed.items) (pack_entry p) (map pack_entry (drop (i + 1) ts)) (set_task t) (packed_tasks (map pack_entry ts)) c.in_ok-task.ensures so_far)

pub returns : goal.returns
returns c =
    let none : drop c.loop-task.task-index c.args.tasks.now ≡ [] = drop_all c.loop-task.task-index c.args.tasks.now c.loop-task-test.false in
    is_done (set_tasks c.loop-task.packed.items) (packed_tasks (map pack_entry c.args.tasks.now))
    (subst (λ l. with_front (set_tasks c.loop-task.packed.items) (packed_tasks (map pack_entry l)) ≡ packed_tasks (map pack_entry c.args.tasks.now)) none c.loop-task.invariant)

pub returns-in_err-task : goal.returns-in_err-task
returns-in_err-task c =
    let q = err_from_is_err_and c.from_residual.result c.from_residual.ensures.1 in
    let p = c.task-item.result in
    let i = c.loop-task.task-index in
    let ts = c.args.tasks.now in
    let rest : drop i ts ≡ p ∷ drop (i + 1) ts = rest_at ts i p c.loop-task-test.true c.task-item.is in
    let so_far : with_front (set_tasks c.loop-task.packed.items) (packed_tasks (pack_entry p ∷ map pack_entry (drop (i + 1) ts))) ≡ packed_tasks (map pack_entry ts) =
    subst (λ l. with_front (set_tasks c.loop-task.packed.items) (packed_tasks (map pack_entry l)) ≡ packed_tasks (map pack_entry ts)) rest c.loop-task.invariant in
    rw (q.1, q.2) (fails c.in_err-task.field-0.0 (set_tasks c.loop-task.packed.items) (pack_entry p) (map pack_entry (drop (i + 1) ts)) (packed_tasks (map pack_entry ts)) c.in_err-task.ensures so_far)
