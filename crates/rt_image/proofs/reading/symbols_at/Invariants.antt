use Rattle.rt_image.proofs.Common.{◌≡◌, ◌-◌, [], labels, labels_at}
use Rattle.rt_image.proofs.SymbolLoop.{with_front}
use Rattle.rt_image.proofs.reading.symbols_at.Given as goal

abbrev pub invariant-loop : goal.invariant-loop
invariant-loop l = with_front (labels l.symbols.items) (labels_at (l.count - l.counter) l.size l.before l.rest) ≡ labels_at l.count l.size [] l.bytes
