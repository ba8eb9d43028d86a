use Rattle.rt_waves.proofs.Common.{◌≡◌, ◌≤◌, ◌*◌, ◌+◌, ◌-◌, ℕ, length, TaskSet, state_at, waves_at}
use Rattle.rt_waves.specs.dump.Working.Filling.{IsDumped}
use Rattle.rt_waves.proofs.dump.dump.fill_page.Given as goal

abbrev pub invariant-ticks : goal.invariant-ticks
invariant-ticks g l = record {
  within : l.machine.tick ≤ l.end;
  later : l.initial.machine.tick ≤ l.machine.tick;
  together : l.waves.tick ≡ l.machine.tick;
  count : length l.waves.tasks ≡ length l.machine.tasks;
  short : length l.page + 143360 * l.initial.machine.tick ≤ 143360 * l.machine.tick;
  told : (set : TaskSet) (from : ℕ) → l.initial.machine ≡ state_at set l.initial.machine.tick → l.initial.waves ≡ waves_at set from l.initial.machine.tick
      → IsDumped set from l.initial.machine.tick l.page l.machine l.waves;
}

abbrev pub decreases-ticks : goal.decreases-ticks
decreases-ticks g l = l.end - l.machine.tick
