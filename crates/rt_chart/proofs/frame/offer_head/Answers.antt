use Rattle.rt_chart.proofs.Common.{Offers-then}
use Rattle.rt_chart.proofs.frame.offer_head.Goals as goal

pub returns-clause-offers : goal.returns-clause-offers
returns-clause-offers g c =
    let seen = g.S.Sink.seen in
    let style = Offers-then seen _ _ _ _ _ _ _ _ c.offer_to.ensures.offers c.put.ensures.offers in
    let ground = Offers-then seen _ _ _ _ _ _ _ _ style c.offer_to-2.ensures.offers in
    let grid = Offers-then seen _ _ _ _ _ _ _ _ ground c.offer_grid.ensures.offers in
    Offers-then seen _ _ _ _ _ _ _ _ grid c.offer_upper_axis.ensures.offers
