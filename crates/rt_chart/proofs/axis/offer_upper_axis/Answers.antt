use Rattle.rt_chart.proofs.Common.{◌≡◌, true, sym, ◌∙◌, Offers-then}
use Rattle.rt_chart.specs.Rows.{is_tall}
use Rattle.rt_chart.proofs.axis.offer_upper_axis.Goals as goal

pub returns-then-is_tall-clause-offers : goal.returns-then-is_tall-clause-offers
returns-then-is_tall-clause-offers g c =
    let seen = g.S.Sink.seen in
    let tall : is_tall c.args.count ≡ true = sym c.is_tall.ensures ∙ c.if-is_tall.true in
    let front = Offers-then seen _ _ _ _ _ _ _ _ c.offer_to.ensures.offers c.offer_labels.ensures.offers in
    rw tall (Offers-then seen _ _ _ _ _ _ _ _ front c.put.ensures.offers)
