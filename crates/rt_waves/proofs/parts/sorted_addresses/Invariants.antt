use Rattle.rt_waves.proofs.Common.{◌≡◌, map, take}
use Rattle.rt_waves.proofs.parts.sorted_addresses.Given as goal

abbrev pub invariant-loop-symbol : goal.invariant-loop-symbol
invariant-loop-symbol l = l.addresses.items ≡ map (λ s. s.address) (take l.symbol-index l.symbols)
