use Rattle.std.proofs.Common.{◌≡◌, ◌≤◌, ◌-◌, length}
use Rattle.rt_image.specs.SystemFile.{TaskSet}
use Rattle.rt_history.specs.Legal.{state_at}
use Rattle.rt_follow.proofs.following.follow_part.Given as goal

abbrev pub invariant-ticks : goal.invariant-ticks
invariant-ticks g l = record {
  within : l.machine.tick ≤ l.n;
  in_step : g.L.Listener.in_step l.listener;
  same : g.L.Listener.tick l.listener ≡ l.machine.tick;
  count : g.L.Listener.count l.listener ≡ length l.machine.tasks;
  kept : g.L.Listener.kept l.listener ≡ g.L.Listener.kept l.initial.listener;
  stands : (set : TaskSet) → l.initial.machine ≡ state_at set l.initial.machine.tick → l.machine ≡ state_at set l.machine.tick;
  told : (first : g.row.L.Denot) (set : TaskSet) → l.initial.machine ≡ state_at set l.initial.machine.tick → g.L.Listener.told first l.initial.listener set l.initial.machine.tick →
      g.L.Listener.told first l.listener set l.machine.tick;
}

abbrev pub decreases-ticks : goal.decreases-ticks
decreases-ticks g l = l.n - l.machine.tick
