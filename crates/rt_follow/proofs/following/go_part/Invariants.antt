use Rattle.std.proofs.Common.{◌≡◌, ◌≤◌, ◌-◌}
use Rattle.rt_image.specs.SystemFile.{TaskSet}
use Rattle.rt_history.specs.Legal.{state_at}
use Rattle.rt_follow.proofs.following.go_part.Given as goal

abbrev pub invariant-quiet : goal.invariant-quiet
invariant-quiet g l = record {
  within : l.machine.tick ≤ l.n;
  stands : (set : TaskSet) → l.initial.machine ≡ state_at set l.initial.machine.tick → l.machine ≡ state_at set l.machine.tick;
}

abbrev pub decreases-quiet : goal.decreases-quiet
decreases-quiet g l = l.n - l.machine.tick
