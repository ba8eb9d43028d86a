use Rattle.rt_image.proofs.Common.{◌≡◌, ◌++◌, take, flat_map, labels, label_spelling}
use Rattle.rt_image.proofs.writing.push_symbols.Given as goal

abbrev pub invariant-loop-symbol : goal.invariant-loop-symbol
invariant-loop-symbol l = l.out.items ≡ l.fn.out.items ++ flat_map label_spelling (labels (take l.symbol-index l.symbols))
