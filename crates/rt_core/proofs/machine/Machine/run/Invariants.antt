use Rattle.rt_core.proofs.Common.{◌≡◌, ◌≤◌, ◌+◌, ◌-◌, ℕ, TaskSet, state_at, Keeps}
use Rattle.rt_core.proofs.machine.Machine.run.Given as goal

abbrev pub invariant-loop-entry : goal.invariant-loop-entry
invariant-loop-entry g l = record {
  left : l.left ≤ l.n;
  clock : l.self.tick ≡ l.initial.self.tick + (l.n - l.left);
  keeps : Keeps l.initial.self l.self;
  legal : (set : TaskSet) (t : ℕ) → l.initial.self ≡ state_at set t → l.self ≡ state_at set (t + (l.n - l.left));
}

abbrev pub decreases-loop-entry : goal.decreases-loop-entry
decreases-loop-entry g l = l.left
