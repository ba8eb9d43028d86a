use Rattle.rt_walk.proofs.Common.{◌≤◌, ◌-◌, PositionState, IsReached, AreReached}
use Rattle.rt_walk.proofs.trail.Trail.lead.Given as goal

abbrev pub invariant-nearer : goal.invariant-nearer
invariant-nearer g l = record {
  early : l.place.machine.tick ≤ l.tick;
  reached : (first : PositionState) → IsReached first l.initial.place → IsReached first l.place;
  left : (first : PositionState) → IsReached first l.initial.place → AreReached first l.initial.self.places.items → AreReached first l.self.places.items;
}

abbrev pub decreases-nearer : goal.decreases-nearer
decreases-nearer g l = l.tick - l.place.machine.tick
