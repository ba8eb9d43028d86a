use Rattle.rt_waves.proofs.Common.{◌≡◌}
use Rattle.rt_waves.specs.WavesText as text
use Rattle.rt_waves.proofs.scopes.all_differ.Given as goal

abbrev pub invariant-loop-task : goal.invariant-loop-task
invariant-loop-task l = l.differ ≡ text.all_differ l.names l.task
