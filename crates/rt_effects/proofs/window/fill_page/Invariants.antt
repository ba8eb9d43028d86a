use Rattle.rt_effects.proofs.Common.{◌≡◌, ◌≤◌, ◌*◌, ◌+◌, ◌-◌, ℕ, length, TaskSet, state_at, words_in}
use Rattle.rt_effects.specs.Working.Window.{IsCut, IsTold}
use Rattle.rt_effects.proofs.window.fill_page.Given as goal

abbrev pub invariant-ticks : goal.invariant-ticks
invariant-ticks g l = record {
  within : l.machine.tick ≤ l.n;
  count : length l.machine.tasks ≡ length l.initial.machine.tasks;
  words : l.teller ≡ l.initial.teller;
  short : length l.page + 1280 * l.initial.machine.tick ≤ 1280 * l.machine.tick;
  told : (set : TaskSet) (from : ℕ) → l.initial.teller ≡ words_in set → from ≤ l.initial.machine.tick → l.initial.machine ≡ state_at set l.initial.machine.tick →
      IsCut set from l.initial.machine.tick → IsTold set l.asked from l.n l.initial.machine.tick l.page l.machine;
}

abbrev pub decreases-ticks : goal.decreases-ticks
decreases-ticks g l = l.n - l.machine.tick
