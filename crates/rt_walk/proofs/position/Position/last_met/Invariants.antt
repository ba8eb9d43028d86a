use Rattle.rt_walk.proofs.Common.{◌≡◌, ◌≤◌, ◌-◌, true, None, max, nat_lt, TaskSet, state_at, IsAt, ahead_of, back_at, LastBefore}
use Rattle.std.specs.Prelude.{if◌then◌else◌}
use Rattle.rt_walk.specs.Jobs.{Stand}
use Rattle.rt_walk.specs.Met.{behind_at}
use Rattle.rt_walk.specs.Position.{stand_of}
use Rattle.rt_walk.proofs.position.Position.last_met.Given as goal

abbrev pub invariant-loop-entry : goal.invariant-loop-entry
invariant-loop-entry g l = record {
  later : l.initial.self.machine.tick ≤ l.self.machine.tick;
  early : l.self.machine.tick ≤ l.top;
  stands : (begin : Stand) (set : TaskSet) → IsAt begin set (stand_of l.initial.self) → IsAt begin set (stand_of l.self);
  left : (begin : Stand) (set : TaskSet) → IsAt begin set (stand_of l.initial.self)
      → l.left ≡ (if nat_lt l.initial.self.machine.tick l.self.machine.tick then ahead_of (g.H.HaltBack.left l.halt) (state_at set (l.self.machine.tick - 1)) else None);
  behind : (begin : Stand) (set : TaskSet) → IsAt begin set (stand_of l.initial.self)
      → l.behind ≡ (if nat_lt l.initial.self.machine.tick l.self.machine.tick then behind_at (g.H.HaltBack.behind l.halt) begin set l.self.machine.tick else None);
  last : (begin : Stand) (set : TaskSet) → IsAt begin set (stand_of l.initial.self)
      → LastBefore (back_at (g.H.HaltBack.here l.halt) (g.H.HaltBack.left l.halt) (g.H.HaltBack.behind l.halt) l.way.passes begin set l.initial.self.machine.tick l.way.now) (max l.way.low l.initial.self.machine.tick) l.self.machine.tick l.last;
  goes : g.P.Pace.goes l.initial.pace l.pace;
  pauses : (l.initial.pauses ≡ true → g.P.Pace.has_paused l.initial.pace ≡ true) → l.pauses ≡ true → g.P.Pace.has_paused l.pace ≡ true;
}

abbrev pub decreases-loop-entry : goal.decreases-loop-entry
decreases-loop-entry g l = l.top - l.self.machine.tick
