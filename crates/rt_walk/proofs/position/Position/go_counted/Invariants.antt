use Rattle.rt_walk.proofs.Common.{◌≡◌, ◌+◌, ◌≤◌, ◌-◌, ℕ, None, min, TaskSet, PositionState, IsReached, IsAt, Searches}
use Rattle.rt_walk.specs.Jobs.{Stand}
use Rattle.rt_walk.specs.Position.{stand_of}
use Rattle.rt_walk.proofs.position.Position.go_counted.Given as goal

abbrev pub invariant-loop-stop : goal.invariant-loop-stop
invariant-loop-stop g l = record {
  from : l.initial.self.machine.tick ≤ l.self.machine.tick;
  early : l.self.machine.tick ≤ l.limit;
  unused : l.self.machine.tick ≤ l.used_up;
  few : l.used_up ≤ l.self.machine.tick + l.left;
  same : l.left ≡ l.initial.left;
  stops : l.stop ≡ min l.used_up l.limit;
  unmet : l.found ≡ None;
  reached : (first : PositionState) → IsReached first l.initial.self → IsReached first l.self;
  stands : (begin : Stand) (set : TaskSet) → IsAt begin set (stand_of l.initial.self) → IsAt begin set (stand_of l.self);
  searches : (begin : Stand) (set : TaskSet) (t : ℕ) → Searches (g.H.Halt.behind l.halt) (g.H.Halt.ahead l.halt) begin set t (stand_of l.initial.self)
      → Searches (g.H.Halt.behind l.halt) (g.H.Halt.ahead l.halt) begin set t (stand_of l.self);
}

abbrev pub decreases-loop-stop : goal.decreases-loop-stop
decreases-loop-stop g l = l.limit - l.self.machine.tick
