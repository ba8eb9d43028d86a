use Rattle.std.specs.Prelude.{◌≡◌, ◌≤◌, ◌*◌, ◌^◌, map, take, drop}
use Rattle.rt_set.specs.Packing.{pack_entry}
use Rattle.rt_perform.specs.Packed.{AreObjectTasks}
use Rattle.rt_perform.proofs.packing.put_objects.Given as goal

abbrev pub invariant-loop-number : goal.invariant-loop-number
invariant-loop-number l = record {
  put : AreObjectTasks (map pack_entry (take l.number l.fn.tasks)) (map pack_entry (take l.number l.tasks)) l.left_out;
  rest : drop l.number l.tasks ≡ drop l.number l.fn.tasks;
  few : l.left_out ≤ l.number * 2 ^ 32;
}
