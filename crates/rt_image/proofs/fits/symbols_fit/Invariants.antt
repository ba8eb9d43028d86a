use Rattle.rt_image.proofs.Common.{◌≡◌, [], drop, are_labels, labels}
use Rattle.rt_image.proofs.fits.symbols_fit.Given as goal

abbrev pub invariant-loop-symbol : goal.invariant-loop-symbol
invariant-loop-symbol l = are_labels l.size l.before (labels (drop l.symbol-index l.symbols)) ≡ are_labels l.size [] (labels l.symbols)
