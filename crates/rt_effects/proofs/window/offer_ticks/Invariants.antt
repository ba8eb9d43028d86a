use Rattle.rt_effects.proofs.Common.{◌≡◌, ◌≤◌, ◌<◌, ◌*◌, ◌-◌, [], length, TaskSet, state_at, words_in}
use Rattle.rt_sink.specs.Offers.{Offers}
use Rattle.rt_effects.specs.Working.Window.{IsCut, text_to}
use Rattle.rt_effects.proofs.window.offer_ticks.Given as goal

abbrev pub invariant-pages : goal.invariant-pages
invariant-pages g l = record {
  within : l.machine.tick ≤ l.n;
  later : l.initial.machine.tick ≤ l.machine.tick;
  same : l.writer.sink.ghost_name ≡ l.initial.writer.sink.ghost_name;
  words : l.teller ≡ l.initial.teller;
  empty : l.page ≡ [];
  bound : l.writer.written ≤ 1280 * l.machine.tick;
  count : length l.teller ≡ length l.machine.tasks;
  told : (set : TaskSet) → l.initial.teller ≡ words_in set → l.initial.machine ≡ state_at set l.initial.machine.tick →
      (l.machine ≡ state_at set l.machine.tick)
      × (l.machine.tick < l.n → IsCut set l.initial.machine.tick l.machine.tick)
      × Offers g.S.Sink.seen 0 l.initial.writer.sink.now (text_to set l.asked l.initial.machine.tick l.machine.tick) l.writer.written l.writer.sink.now;
}

abbrev pub decreases-pages : goal.decreases-pages
decreases-pages g l = l.n - l.machine.tick
