use Rattle.rt_elf.proofs.Common.{◌≡◌, drop, labels, address_in}
use Rattle.rt_elf.proofs.naming.naming.address_in.Given as goal

abbrev pub invariant-loop-symbol : goal.invariant-loop-symbol
invariant-loop-symbol l = address_in (labels l.symbols) l.name ≡ address_in (labels (drop l.symbol-index l.symbols)) l.name
