use Rattle.rt_queue.proofs.Common.{arith}
use Rattle.rt_queue.proofs.heap.RowLemmas.{IsLeast-empty, IsLeast-top}
use Rattle.rt_queue.proofs.heap.heap.HeapMinQueue.least.Goals as goal

pub returns-then-self-eq0 : goal.returns-then-self-eq0
returns-then-self-eq0 c =
    rw (← c.self.view_is, c.if-self-eq0.true)
    (IsLeast-empty c.self.inside.keys.items c.self.inside.places.items (omega (arith, c.self.invariant.keyed, c.self.invariant.inverse.same_length)))

pub returns : goal.returns
returns c =
    rw (← c.self.view_is, c.entry.ensures, c.deref.ensures.value, c.deref-2.ensures.value)
    (IsLeast-top c.self.inside.keys.items c.self.inside.order.items c.self.inside.places.items c.self.inside.len c.self.invariant (omega arith))
