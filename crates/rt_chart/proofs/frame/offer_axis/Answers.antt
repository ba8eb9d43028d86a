use Rattle.rt_chart.proofs.Common.{Offers-then}
use Rattle.rt_chart.proofs.frame.offer_axis.Goals as goal

pub returns-clause-offers : goal.returns-clause-offers
returns-clause-offers g c =
    let seen = g.S.Sink.seen in
    let front = Offers-then seen _ _ _ _ _ _ _ _ (rw c.row_top-top.ensures at c.offer_to.ensures.offers) c.offer_labels.ensures.offers in
    let closing = Offers-then seen _ _ _ _ _ _ _ _ c.put.ensures.offers c.put-2.ensures.offers in
    Offers-then seen _ _ _ _ _ _ _ _ front (rw c.key.ensures.text at closing)
