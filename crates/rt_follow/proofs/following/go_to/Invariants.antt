use Rattle.std.proofs.Common.{◌≡◌, ◌≤◌, ◌-◌}
use Rattle.rt_image.specs.SystemFile.{TaskSet}
use Rattle.rt_history.specs.Legal.{state_at}
use Rattle.rt_follow.proofs.following.go_to.Given as goal

abbrev pub invariant-parts : goal.invariant-parts
invariant-parts g l = record {
  within : l.machine.tick ≤ l.n;
  stands : (set : TaskSet) → l.initial.machine ≡ state_at set l.initial.machine.tick → l.machine ≡ state_at set l.machine.tick;
}

abbrev pub decreases-parts : goal.decreases-parts
decreases-parts g l = l.n - l.machine.tick
