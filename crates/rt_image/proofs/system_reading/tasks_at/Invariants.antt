use Rattle.rt_image.proofs.Common.{◌≡◌, ◌-◌, set_tasks, tasks_at}
use Rattle.rt_image.proofs.TaskLoop.{with_front}
use Rattle.rt_image.proofs.system_reading.tasks_at.Given as goal

abbrev pub invariant-loop : goal.invariant-loop
invariant-loop l = with_front (set_tasks l.tasks.items) (tasks_at l.version (l.count - l.counter) l.rest) ≡ tasks_at l.version l.count l.bytes
