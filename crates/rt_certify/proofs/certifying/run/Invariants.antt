use Rattle.rt_certify.proofs.Common.{◌≡◌, ◌≤◌, ◌^◌, [], length, state_at, StandsAt}
use Rattle.std.proofs.Common.{◌-◌, ◌∷◌}
use Rattle.rt_image.specs.SystemFile.{SetTask, TaskSet}
use Rattle.rt_certify.proofs.certifying.run.Given as goal

abbrev pub invariant-jobs : goal.invariant-jobs
invariant-jobs g l = record {
  one : length l.machine.tasks ≡ 1;
  limits : l.trial.limits ≡ l.initial.trial.limits;
  few : l.trial.jobs ≤ l.jobs;
  machine : (set : TaskSet) → l.initial.machine ≡ state_at set l.initial.machine.tick → l.machine ≡ state_at set l.machine.tick;
  stands : (set : TaskSet) (s : SetTask) → l.initial.machine ≡ state_at set l.initial.machine.tick → set.tasks ≡ s ∷ [] →
      StandsAt set s l.initial.trial.limits l.initial.machine.tick l.initial.trial → StandsAt set s l.initial.trial.limits l.machine.tick l.trial;
}

abbrev pub decreases-jobs : goal.decreases-jobs
decreases-jobs g l = 2 ^ 40 - l.machine.tick
