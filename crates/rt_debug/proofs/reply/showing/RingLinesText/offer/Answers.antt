use Rattle.std.proofs.Common.{arith}
use Rattle.rt_debug.proofs.reply.ShownLemmas.{all_left, fewer_left, entry_next}
use Rattle.rt_debug.proofs.reply.showing.RingLinesText.offer.Goals as goal

pub loop-place-init : goal.loop-place-init
loop-place-init g c = record { from = omega arith; so_far = all_left _ g.met.O.Out.nothing _ _ _ }

pub loop-place-preserved : goal.loop-place-preserved
loop-place-preserved g c =
    let next = entry_next c.args.self.now.ring.now.items c.loop-place.place c.get.result c.unwrap.result c.get.ensures c.unwrap.ensures in
    record {
      from = omega (arith, c.loop-place.invariant.from);
      so_far = fewer_left _ g.met.O.Out.joined _ _ _ _ _ _ _ _ _ c.loop-place.invariant.so_far next (omega (arith, c.loop-place.invariant.from, c.offer-in-loop-place.ensures.short)) c.offer-in-loop-place.ensures.offers;
    }
