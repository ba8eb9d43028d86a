use Rattle.rt_queue.proofs.Common.{arith}
use Rattle.rt_queue.proofs.heap.RowLemmas.{absent-number}
use Rattle.rt_queue.proofs.heap.heap.HeapMinQueue.insert.Goals as goal

pub insert_entry-requires-clause-below : goal.insert_entry-requires-clause-below
insert_entry-requires-clause-below c =
    rw c.deref_mut.ensures.value
    (absent-number c.self.inside.keys.items c.self.inside.places.items c.args.self.now c.self.inside.len c.args.number c.self.view_is
    (omega (arith, c.self.invariant.keyed, c.self.invariant.inverse.same_length)) c.requires.below c.requires.absent).0

pub insert_entry-requires-clause-absent : goal.insert_entry-requires-clause-absent
insert_entry-requires-clause-absent c =
    rw c.deref_mut-3.ensures.value
    (absent-number c.self.inside.keys.items c.self.inside.places.items c.args.self.now c.self.inside.len c.args.number c.self.view_is
    (omega (arith, c.self.invariant.keyed, c.self.invariant.inverse.same_length)) c.requires.below c.requires.absent).1
