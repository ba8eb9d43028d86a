use Rattle.rt_core.proofs.Common.{◌≡◌, map, take, reserved_of}
use Rattle.arrayvec.specs.ArrayVec.{array_vec_len}
use Rattle.rt_core.proofs.machine.settling.may_reserve.Given as goal

abbrev pub invariant-loop-task : goal.invariant-loop-task
invariant-loop-task g l = record {
  items : l.reserved.items ≡ map reserved_of (take l.task-index l.tasks);
  len : array_vec_len l.reserved ≡ l.task-index;
}
