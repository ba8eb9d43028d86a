use Rattle.rt_chart.proofs.Common.{◌≡◌, take, all_finished}
use Rattle.rt_chart.specs.Labels.{longest}
use Rattle.rt_chart.proofs.label.longest_of.Given as goal

abbrev pub invariant-loop-task : goal.invariant-loop-task
invariant-loop-task l = l.longest ≡ longest (all_finished l.window (take l.task l.sketches))
