use Rattle.rt_walk.proofs.Common.{◌≡◌, ◌≤◌, ◌-◌, ℕ, false, TaskSet, PositionState, IsReached, IsAt, Searches}
use Rattle.rt_walk.specs.Jobs.{Stand}
use Rattle.rt_walk.specs.Position.{stand_of}
use Rattle.rt_walk.proofs.position.Position.go_by.Given as goal

abbrev pub invariant-loop-halt : goal.invariant-loop-halt
invariant-loop-halt g l = record {
  from : l.initial.self.machine.tick ≤ l.self.machine.tick;
  early : l.self.machine.tick ≤ l.limit;
  reached : (first : PositionState) → IsReached first l.initial.self → IsReached first l.self;
  stands : (begin : Stand) (set : TaskSet) → IsAt begin set (stand_of l.initial.self) → IsAt begin set (stand_of l.self);
  searches : (begin : Stand) (set : TaskSet) (t : ℕ) → Searches (g.H.Halt.behind l.halt) (g.H.Halt.ahead l.halt) begin set t (stand_of l.initial.self)
      → Searches (g.H.Halt.behind l.halt) (g.H.Halt.ahead l.halt) begin set t (stand_of l.self);
  unpaused : g.P.Pace.has_paused l.initial.pace ≡ false → g.P.Pace.has_paused l.pace ≡ false;
  goes : g.P.Pace.goes l.initial.pace l.pace;
}

abbrev pub decreases-loop-halt : goal.decreases-loop-halt
decreases-loop-halt g l = l.limit - l.self.machine.tick
