use Rattle.rt_profile.proofs.Common.{◌≡◌, take, labels, part}
use Rattle.rt_profile.proofs.parts.part_of.Given as goal

abbrev pub invariant-loop-symbol : goal.invariant-loop-symbol
invariant-loop-symbol l = l.number ≡ part (labels (take l.symbol-index l.symbols)) l.address
