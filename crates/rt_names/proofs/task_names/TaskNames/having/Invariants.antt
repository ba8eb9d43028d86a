use Rattle.rt_names.proofs.Common.{◌≡◌, take}
use Rattle.rt_names.specs.TaskWords.{having}
use Rattle.rt_names.proofs.task_names.TaskNames.having.Given as goal

abbrev pub invariant-loop-name : goal.invariant-loop-name
invariant-loop-name l = l.count ≡ having l.word (take l.name-index l.self)
