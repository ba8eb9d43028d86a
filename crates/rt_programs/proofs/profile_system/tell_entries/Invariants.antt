use Rattle.rt_programs.proofs.Common.{◌≡◌, ◌≤◌, ◌-◌, length, TaskSet, state_at}
use Rattle.rt_profile.specs.Standing.{profile_at}
use Rattle.rt_programs.proofs.profile_system.tell_entries.Given as goal

abbrev pub invariant-parts : goal.invariant-parts
invariant-parts g l = record {
  within : l.machine.tick ≤ l.n;
  same : l.profile.tick ≡ l.machine.tick;
  count : length l.profile.tasks ≡ length l.machine.tasks;
  stands : (set : TaskSet) → l.initial.machine ≡ state_at set l.initial.machine.tick → l.machine ≡ state_at set l.machine.tick;
  told : (set : TaskSet) → l.initial.machine ≡ state_at set l.initial.machine.tick → l.initial.profile ≡ profile_at set l.initial.machine.tick → l.profile ≡ profile_at set l.machine.tick;
}

abbrev pub decreases-parts : goal.decreases-parts
decreases-parts g l = l.n - l.machine.tick
