use Rattle.rt_profile.proofs.Common.{◌≡◌, map, take}
use Rattle.rt_image.specs.SystemFile.{set_tasks}
use Rattle.rt_profile.proofs.StandingLaws.{first_of}
use Rattle.rt_profile.proofs.profile.Profile.new.Given as goal

abbrev pub invariant-loop-task : goal.invariant-loop-task
invariant-loop-task l = l.tasks.items ≡ map first_of (set_tasks (take l.task-index l.system.tasks.items))
