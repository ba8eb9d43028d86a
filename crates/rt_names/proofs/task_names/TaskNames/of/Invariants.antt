use Rattle.rt_names.proofs.Common.{◌≡◌}
use Rattle.rt_names.proofs.NameLemmas.{first_names}
use Rattle.rt_names.proofs.task_names.TaskNames.of.Given as goal

abbrev pub invariant-loop-number : goal.invariant-loop-number
invariant-loop-number l = l.names.items ≡ first_names l.number l.system.tasks.items
