use Rattle.rt_waves.proofs.Common.{◌≡◌, ◌≤◌, ◌+◌, ◌-◌, ◌*◌, ◌^◌, ℕ, [], length, flat_map, range_with_len, TaskSet, state_at, Offers, waves_at, told_block}
use Rattle.rt_waves.proofs.dump.dump.offer_blocks.Given as goal

abbrev pub invariant-pages : goal.invariant-pages
invariant-pages g l = record {
  within : l.machine.tick ≤ l.end;
  together : l.waves.tick ≡ l.machine.tick;
  count : length l.waves.tasks ≡ length l.machine.tasks;
  same : l.writer.sink.ghost_name ≡ l.initial.writer.sink.ghost_name;
  empty : l.page ≡ [];
  bound : l.writer.written ≤ 2 ^ 17 + 143360 * l.machine.tick;
  told : (set : TaskSet) (from : ℕ) → l.initial.machine ≡ state_at set 0 → l.initial.waves ≡ waves_at set from 0
      → (l.machine ≡ state_at set l.machine.tick) × (l.waves ≡ waves_at set from l.machine.tick)
      × Offers g.S.Sink.seen l.initial.writer.written l.initial.writer.sink.now (flat_map (told_block set from) (range_with_len 0 l.machine.tick)) l.writer.written l.writer.sink.now;
}

abbrev pub decreases-pages : goal.decreases-pages
decreases-pages g l = l.end - l.machine.tick
