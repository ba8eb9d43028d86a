use Rattle.std.proofs.Common.{◌≡◌, drop}
use Rattle.std.specs.Prelude.{map}
use Rattle.rt_image.specs.SystemFile.{set_tasks}
use Rattle.rt_set.specs.Packing.{pack_entry, packed_tasks}
use Rattle.rt_set.proofs.PackLoop.{with_front}
use Rattle.rt_set.proofs.packing.packed_tasks.Given as goal

abbrev pub invariant-loop-task : goal.invariant-loop-task
invariant-loop-task l = with_front (set_tasks l.packed.items) (packed_tasks (map pack_entry (drop l.task-index l.tasks))) ≡ packed_tasks (map pack_entry l.tasks)
