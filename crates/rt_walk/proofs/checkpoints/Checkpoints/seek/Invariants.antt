use Rattle.rt_walk.proofs.Common.{◌≡◌, ◌≤◌, ◌<◌, ◌+◌, ◌-◌, ℕ, None, true, false, tick_limit, TaskSet, PositionState, IsReached, IsAt, met_at, tick_of, AreKept, AreReached}
use Rattle.std.proofs.Common.{min}
use Rattle.rt_walk.specs.Jobs.{Stand}
use Rattle.rt_walk.specs.Position.{stand_of}
use Rattle.rt_walk.proofs.checkpoints.Checkpoints.seek.Given as goal

abbrev pub invariant-loop-left : goal.invariant-loop-left
invariant-loop-left g l = record {
  left : l.left ≤ min l.n (tick_limit - l.initial.place.machine.tick);
  clock : l.place.machine.tick ≡ l.initial.place.machine.tick + (min l.n (tick_limit - l.initial.place.machine.tick) - l.left);
  stands : (begin : Stand) (set : TaskSet) → IsAt begin set (stand_of l.initial.place) → IsAt begin set (stand_of l.place);
  none : (begin : Stand) (set : TaskSet) → IsAt begin set (stand_of l.initial.place) → (u : ℕ) → l.initial.place.machine.tick < u → u ≤ l.place.machine.tick
      → met_at (g.H.Halt.behind l.halt) (g.H.Halt.ahead l.halt) begin set u ≡ None;
  unpaused : g.P.Pace.has_paused l.initial.pace ≡ false → g.P.Pace.has_paused l.pace ≡ false;
  goes : g.P.Pace.goes l.initial.pace l.pace;
  reached : (first : PositionState) → IsReached first l.initial.place → IsReached first l.place;
  later : l.place.machine.tick < l.self.due;
  spread : (start : ℕ) → (l.initial.self.is_whole ≡ true → AreKept tick_of start l.initial.self.due l.initial.self.distance l.initial.self.most l.initial.self.places.items)
      → l.self.is_whole ≡ true → AreKept tick_of start l.self.due l.self.distance l.self.most l.self.places.items;
  kept : (first : PositionState) → IsReached first l.initial.place → AreReached first l.initial.self.places.items → AreReached first l.self.places.items;
}

abbrev pub decreases-loop-left : goal.decreases-loop-left
decreases-loop-left g l = l.left
