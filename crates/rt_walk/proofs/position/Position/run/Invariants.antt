use Rattle.rt_walk.proofs.Common.{◌≡◌, ◌≤◌, ◌+◌, ◌-◌, PositionState, IsReached}
use Rattle.rt_walk.proofs.position.Position.run.Given as goal

abbrev pub invariant-loop-entry : goal.invariant-loop-entry
invariant-loop-entry g l = record {
  left : l.left ≤ l.n;
  clock : l.self.machine.tick ≡ l.initial.self.machine.tick + (l.n - l.left);
  reached : (first : PositionState) → IsReached first l.initial.self → IsReached first l.self;
}

abbrev pub decreases-loop-entry : goal.decreases-loop-entry
decreases-loop-entry g l = l.left
