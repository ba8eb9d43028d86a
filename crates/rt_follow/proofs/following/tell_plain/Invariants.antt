use Rattle.std.proofs.Common.{◌≡◌, ◌≤◌, ◌+◌, ◌-◌, ℕ}
use Rattle.rt_image.specs.SystemFile.{TaskSet}
use Rattle.rt_history.specs.Plain.{ArePlain}
use Rattle.rt_follow.proofs.following.tell_plain.Given as goal

abbrev pub invariant-steps : goal.invariant-steps
invariant-steps g l = record {
  within : l.done ≤ l.n;
  in_step : g.L.Listener.in_step l.listener;
  clock : g.L.Listener.tick l.listener ≡ g.L.Listener.tick l.initial.listener + l.done;
  count : g.L.Listener.count l.listener ≡ g.L.Listener.count l.initial.listener;
  kept : g.L.Listener.kept l.listener ≡ g.L.Listener.kept l.initial.listener;
  told : (first : g.row.L.Denot) (set : TaskSet) (t : ℕ) → g.L.Listener.told first l.initial.listener set t → ArePlain set t l.task l.n →
      g.L.Listener.told first l.listener set (t + l.done);
}

abbrev pub decreases-steps : goal.decreases-steps
decreases-steps g l = l.n - l.done
