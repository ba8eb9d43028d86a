use Rattle.rt_queue.proofs.Common.{arith}
use Rattle.rt_queue.proofs.heap.RowLemmas.{present-number}
use Rattle.rt_queue.proofs.heap.heap.HeapMinQueue.remove.Goals as goal

pub remove_entry-requires-clause-below : goal.remove_entry-requires-clause-below
remove_entry-requires-clause-below c =
    rw c.deref.ensures.value
    (present-number c.self.inside.keys.items c.self.inside.places.items c.args.self.now c.self.inside.len c.args.number c.self.view_is c.requires).0

pub remove_entry-requires-clause-present : goal.remove_entry-requires-clause-present
remove_entry-requires-clause-present c =
    rw c.deref_mut-2.ensures.value
    (present-number c.self.inside.keys.items c.self.inside.places.items c.args.self.now c.self.inside.len c.args.number c.self.view_is c.requires).1

pub overflow_sub-self : goal.overflow_sub-self
overflow_sub-self c =
    let known = present-number c.self.inside.keys.items c.self.inside.places.items c.args.self.now c.self.inside.len c.args.number c.self.view_is c.requires in
    omega (arith, known.1)
