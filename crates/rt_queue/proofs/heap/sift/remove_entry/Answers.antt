use Rattle.rt_queue.proofs.Common.{◌≡◌, ◌∙◌, ◌-◌, ℕ, get_or, refl, arith, above, IsRising, NotAfter, entry_at}
use Rattle.rt_queue.proofs.OrderLemmas.{NotAfter-same}
use Rattle.rt_queue.proofs.heap.HeapOrderLemmas.{replaced-rising}
use Rattle.rt_queue.proofs.heap.RowLemmas.{exchange-last, keys_in-removed, order_after, removed-replaced}
use Rattle.rt_queue.proofs.heap.sift.remove_entry.Goals as goal

pub returns-then-place-last-clause-removed : goal.returns-then-place-last-clause-removed
returns-then-place-last-clause-removed c =
    rw c.exchange.ensures.places
    (keys_in-removed c.args.keys.now c.args.order.now c.args.places.now c.args.number c.args.len (c.args.len - 1)
    (exchange-last c.args.keys.now c.args.order.now c.args.places.now c.args.len c.args.number c.requires.heap c.requires.below c.requires.present)
    c.requires.present (omega arith))

pub returns-then-comes_before-clause-heap : goal.returns-then-comes_before-clause-heap
returns-then-comes_before-clause-heap c =
    let next : ℕ → ℕ × ℕ = entry_at c.args.keys.now (order_after c.args.order.now c.args.places.now c.args.number (c.args.len - 1)) in
    let was = get_or c.args.places.now c.args.number 0 in
    let moved_is : next was ≡ c.entry-moved.result = rw (c.entry-moved.ensures, c.exchange.ensures.order) refl in
    let above_is : next (above was) ≡ c.entry.result = rw (c.entry.ensures, c.exchange.ensures.order) refl in
    let before : NotAfter c.entry-moved.result c.entry.result = c.if-comes_before.ensures in
    let rising : IsRising (entry_at c.args.keys.now c.exchange.new.order) (c.args.len - 1) was =
    rw c.exchange.ensures.order
    (replaced-rising (entry_at c.args.keys.now c.args.order.now) next c.args.len (c.args.len - 1) was c.requires.heap.ordered (omega arith) (omega arith)
    (removed-replaced c.args.keys.now c.args.order.now c.args.places.now c.args.number (c.args.len - 1)) c.if-place-gt0.true
    (NotAfter-same c.entry-moved.result (next was) c.entry.result (next (above was)) moved_is above_is before)) in
    record {
      keyed = omega (arith, c.requires.heap.keyed);
      few = omega (arith, c.requires.heap.few);
      within = omega (arith, c.requires.heap.within);
      inverse = c.sift_up.ensures.inverse;
      ordered = c.sift_up.ensures.ordered (c.args.len - 1) rising;
    }

pub returns-then-comes_before-clause-removed : goal.returns-then-comes_before-clause-removed
returns-then-comes_before-clause-removed c =
    c.sift_up.ensures.present (c.args.len - 1) (omega arith)
    ∙ rw c.exchange.ensures.places
    (keys_in-removed c.args.keys.now c.args.order.now c.args.places.now c.args.number c.args.len (c.args.len - 1)
    (exchange-last c.args.keys.now c.args.order.now c.args.places.now c.args.len c.args.number c.requires.heap c.requires.below c.requires.present)
    c.requires.present (omega arith))

pub returns-else-place-gt0-clause-removed : goal.returns-else-place-gt0-clause-removed
returns-else-place-gt0-clause-removed c =
    c.sift_down.ensures.present
    ∙ rw c.exchange.ensures.places
    (keys_in-removed c.args.keys.now c.args.order.now c.args.places.now c.args.number c.args.len (c.args.len - 1)
    (exchange-last c.args.keys.now c.args.order.now c.args.places.now c.args.len c.args.number c.requires.heap c.requires.below c.requires.present)
    c.requires.present (omega arith))
