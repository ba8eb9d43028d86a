use Rattle.rt_walk.proofs.Common.{◌≡◌, ◌≤◌, ◌<◌, ◌-◌, ℕ, true, None, TaskSet, state_at, back_at}
use Rattle.rt_walk.specs.Position.{stand_of}
use Rattle.rt_walk.proofs.walk.Walk.last_met.Given as goal

abbrev pub invariant-loop-top : goal.invariant-loop-top
invariant-loop-top g l = record {
  walk : l.self ≡ l.initial.self;
  above : l.bottom ≤ l.top;
  within : l.top ≤ l.now;
  none : (set : TaskSet) → l.initial.self.first.machine ≡ state_at set l.initial.self.first.machine.tick → (u : ℕ) → l.low ≤ u → l.top < u → u ≤ l.now
      → back_at (g.H.HaltBack.here l.halt) (g.H.HaltBack.left l.halt) (g.H.HaltBack.behind l.halt) l.way.passes (stand_of l.initial.self.first) set l.first l.now u ≡ None;
  base : (set : TaskSet) → l.initial.self.first.machine ≡ state_at set l.initial.self.first.machine.tick → l.top < l.now → l.low ≤ l.top
      → back_at (g.H.HaltBack.here l.halt) (g.H.HaltBack.left l.halt) (g.H.HaltBack.behind l.halt) l.way.passes (stand_of l.initial.self.first) set l.top l.now l.top ≡ None;
  goes : g.P.Pace.goes l.initial.pace l.pace;
  pauses : l.pauses ≡ true → g.P.Pace.has_paused l.pace ≡ true;
}

abbrev pub decreases-loop-top : goal.decreases-loop-top
decreases-loop-top g l = l.top - l.bottom
