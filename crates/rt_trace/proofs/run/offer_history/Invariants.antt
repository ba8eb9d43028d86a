use Rattle.rt_trace.proofs.Common.{◌≡◌, ◌≤◌, ◌<◌, ◌*◌, ◌-◌, [], length, TaskSet, legal, state_at, history_text, IsCut}
use Rattle.rt_sink.specs.Offers.{Offers}
use Rattle.rt_trace.proofs.run.offer_history.Given as goal

abbrev pub invariant-pages : goal.invariant-pages
invariant-pages g l = record {
  within : l.machine.tick ≤ l.n;
  same : l.writer.sink.ghost_name ≡ l.initial.writer.sink.ghost_name;
  empty : l.page.text ≡ [];
  short : l.writer.written ≤ 160 * l.machine.tick;
  at : g.H.Hearer.is_at l.hearer l.machine.tick (length l.machine.tasks);
  told : (set : TaskSet) → l.initial.machine ≡ state_at set 0 →
      (l.machine ≡ state_at set l.machine.tick)
      × Offers g.S.Sink.seen l.initial.writer.written l.initial.writer.sink.now (history_text (legal set l.machine.tick)) l.writer.written l.writer.sink.now
      × (l.machine.tick < l.n → IsCut set l.machine.tick);
  heard : (set : TaskSet) → l.initial.machine ≡ state_at set 0 → g.H.Hearer.heard l.initial.hearer l.initial.hearer set 0 →
      g.H.Hearer.heard l.initial.hearer l.hearer set l.machine.tick;
}

abbrev pub decreases-pages : goal.decreases-pages
decreases-pages g l = l.n - l.machine.tick
