use Rattle.rt_trace.proofs.Common.{◌≡◌, ◌≤◌, ◌*◌, ◌+◌, ◌-◌, length, TaskSet, state_at, IsCut, IsTold}
use Rattle.rt_trace.proofs.run.fill_page.Given as goal

abbrev pub invariant-ticks : goal.invariant-ticks
invariant-ticks g l = record {
  within : l.machine.tick ≤ l.n;
  short : length l.page.text + 160 * l.initial.machine.tick ≤ 160 * l.machine.tick;
  told : (set : TaskSet) → l.initial.machine ≡ state_at set l.initial.machine.tick → IsCut set l.initial.machine.tick →
      IsTold set l.n l.initial.machine.tick l.page.text l.machine;
  at : g.H.Hearer.is_at l.hearer l.machine.tick (length l.machine.tasks);
  stands : (set : TaskSet) → l.initial.machine ≡ state_at set l.initial.machine.tick → l.machine ≡ state_at set l.machine.tick;
  heard : (first : g.row.H.Denot) (set : TaskSet) → l.initial.machine ≡ state_at set l.initial.machine.tick → g.H.Hearer.heard first l.initial.hearer set l.initial.machine.tick →
      g.H.Hearer.heard first l.hearer set l.machine.tick;
}

abbrev pub decreases-ticks : goal.decreases-ticks
decreases-ticks g l = l.n - l.machine.tick
