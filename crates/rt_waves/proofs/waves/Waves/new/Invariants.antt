use Rattle.rt_waves.proofs.Common.{◌≡◌, map, take, set_tasks, first_standing}
use Rattle.rt_waves.proofs.waves.Waves.new.Given as goal

abbrev pub invariant-loop-task : goal.invariant-loop-task
invariant-loop-task l = l.tracks.items ≡ map first_standing (set_tasks (take l.task-index l.tasks))
