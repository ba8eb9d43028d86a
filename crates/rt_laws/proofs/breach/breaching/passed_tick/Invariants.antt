use Rattle.rt_laws.proofs.Common.{◌≤◌, ◌-◌, total_weight}
use Rattle.rt_laws.proofs.breach.breaching.passed_tick.Given as goal

abbrev pub invariant-loop-beyond : goal.invariant-loop-beyond
invariant-loop-beyond l = record {
  ordered : l.passed ≤ l.beyond;
  within : l.beyond ≤ l.hyper;
  spent : total_weight l.passed l.params ≤ l.hyper;
}

abbrev pub decreases-loop-beyond : goal.decreases-loop-beyond
decreases-loop-beyond l = l.beyond - l.passed
