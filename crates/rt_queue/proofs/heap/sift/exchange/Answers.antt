use Rattle.rt_queue.proofs.Common.{get_or, refl}
use Rattle.rt_queue.proofs.heap.PlacesLemmas.{AreInverse-set}
use Rattle.rt_queue.proofs.heap.sift.exchange.Goals as goal

pub returns-clause-inverse : goal.returns-clause-inverse
returns-clause-inverse c =
    AreInverse-set c.args.order.now c.args.places.now (get_or c.args.places.now c.args.number 0) c.args.place c.args.number
    (get_or c.args.order.now c.args.place 0)
    (record {
      low = c.requires.inverse.place_below c.args.number c.requires.number;
      high = c.requires.place;
      inverse = c.requires.inverse;
      there = c.requires.inverse.place_of c.args.number c.requires.number;
      then = refl;
    })
