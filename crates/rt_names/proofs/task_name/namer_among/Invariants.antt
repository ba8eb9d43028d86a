use Rattle.rt_names.proofs.Common.{◌≡◌, take, option_map, label, labels}
use Rattle.rt_names.specs.TaskName.{namer_among}
use Rattle.rt_names.proofs.task_name.namer_among.Given as goal

abbrev pub invariant-loop-symbol : goal.invariant-loop-symbol
invariant-loop-symbol l = option_map label l.found ≡ namer_among l.entry (labels (take l.symbol-index l.symbols))
