use Rattle.rt_queue.proofs.Common.{◌∙◌, ◌+◌, set, arith, common_steps, IsRising, entry_at}
use Rattle.rt_queue.proofs.heap.RowLemmas.{CanExchange, exchange-behind, inserted-rising, keys_in-inserted}
use Rattle.rt_queue.proofs.heap.sift.insert_entry.Goals as goal

pub returns-clause-heap : goal.returns-clause-heap
returns-clause-heap c =
    let behind : CanExchange c.args.keys.now c.args.order.now c.args.places.now c.args.number c.args.len =
    exchange-behind c.args.keys.now c.args.order.now c.args.places.now c.args.len c.args.number c.requires.heap c.requires.below c.requires.absent in
    let rising : IsRising (entry_at (set c.args.keys.now c.args.number c.args.key) c.exchange.new.order) (c.args.len + 1) c.args.len =
    rw c.exchange.ensures.order
    (inserted-rising c.args.keys.now c.args.order.now c.args.places.now c.args.number c.args.key c.args.len behind c.requires.absent
    c.requires.heap.ordered) in
    record {
      keyed = grind (arith, common_steps, c.requires.heap.keyed);
      few = omega (arith, c.requires.heap.few);
      within = omega (arith, behind.place);
      inverse = c.sift_up.ensures.inverse;
      ordered = c.sift_up.ensures.ordered (c.args.len + 1) rising;
    }

pub returns-clause-inserted : goal.returns-clause-inserted
returns-clause-inserted c =
    let behind : CanExchange c.args.keys.now c.args.order.now c.args.places.now c.args.number c.args.len =
    exchange-behind c.args.keys.now c.args.order.now c.args.places.now c.args.len c.args.number c.requires.heap c.requires.below c.requires.absent in
    c.sift_up.ensures.present (c.args.len + 1) (omega arith)
    ∙ rw c.exchange.ensures.places
    (keys_in-inserted c.args.keys.now c.args.order.now c.args.places.now c.args.number c.args.key c.args.len behind c.requires.absent)
