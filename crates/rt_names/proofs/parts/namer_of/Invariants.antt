use Rattle.rt_names.proofs.Common.{◌≡◌, take, option_map, label, labels, namer}
use Rattle.rt_names.proofs.parts.namer_of.Given as goal

abbrev pub invariant-loop-symbol : goal.invariant-loop-symbol
invariant-loop-symbol l = option_map label l.found ≡ namer (labels (take l.symbol-index l.symbols)) l.address
