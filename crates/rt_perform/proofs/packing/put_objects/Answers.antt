use Rattle.rt_perform.proofs.Common.{◌≡◌, ℕ, ◌<◌, List, length, sym, ap, subst, arith}
use Rattle.std.proofs.lemmas.Result.{err_from_is_err_and}
use Rattle.rt_set.specs.Packing.{pack_entry}
use Rattle.rt_set.specs.declared.packing.PackTask.{PackTask}
use Rattle.rt_perform.specs.Packed.{IsObjectTask, IsFaultyTask}
use Rattle.rt_perform.proofs.TaskLemmas.{put_more, rest_more, faulty_at}
use Rattle.rt_perform.proofs.packing.put_objects.Goals as goal

pub returns-in_err-left_out : goal.returns-in_err-left_out
returns-in_err-left_out c =
    let q = err_from_is_err_and c.from_residual.result c.from_residual.ensures.1 in
    let old = c.args.tasks.now in
    let now = c.loop-number.tasks in
    let i = c.loop-number.number in
    let d = c.index-tasks-number.result in
    let there : i < length now = omega (arith, c.loop-number-test.true, c.loop-number.auto.tasks) in
    let within : i < length old = omega (arith, c.loop-number-test.true, c.loop-number.auto.tasks) in
    rw (q.1, q.2) (faulty_at old now i d within there c.loop-number.invariant.rest c.loop-number.left_out c.in_err-left_out.field-0.0 c.loop-number.invariant.put c.in_err-left_out.ensures.faulty)

pub loop-number-preserved : goal.loop-number-preserved
loop-number-preserved c =
    let old = c.args.tasks.now in
    let now = c.loop-number.tasks in
    let i = c.loop-number.number in
    let d = c.index-tasks-number.result in
    let new = c.put_object.new.task in
    let n = c.loop-number.left_out in
    let m = c.in_ok-left_out.field-0 in
    let there : i < length now = omega (arith, c.loop-number-test.true, c.loop-number.auto.tasks) in
    let within : i < length old = omega (arith, c.loop-number-test.true, c.loop-number.auto.tasks) in
    record {
      put = put_more old now i d within there c.loop-number.invariant.rest new n m c.loop-number.invariant.put c.in_ok-left_out.ensures.put;
      rest = rest_more old now i d within there c.loop-number.invariant.rest new;
      few = omega (arith, c.loop-number.invariant.few, c.in_ok-left_out.ensures.few);
    }
