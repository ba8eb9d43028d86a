use Rattle.rt_chart.proofs.Common.{Offers-then}
use Rattle.rt_chart.proofs.axis.offer_grid.Goals as goal

pub returns-clause-offers : goal.returns-clause-offers
returns-clause-offers g c =
    let seen = g.S.Sink.seen in
    let lines = rw c.rows_height.ensures at c.offer_parts.ensures.offers in
    let front = Offers-then seen _ _ _ _ _ _ _ _ c.offer_to.ensures.offers lines in
    Offers-then seen _ _ _ _ _ _ _ _ front c.put.ensures.offers
