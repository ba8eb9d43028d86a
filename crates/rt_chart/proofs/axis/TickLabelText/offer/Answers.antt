use Rattle.rt_chart.specs.Axis.{tick_label}
use Rattle.rt_chart.proofs.axis.TickLabelText.offer.Goals as goal

pub returns-clause-offers : goal.returns-clause-offers
unfolding tick_label
returns-clause-offers g c = rw (c.plain.ensures, c.place.ensures.value, c.plain-words.ensures, c.plain-end.ensures, c.plain-2.ensures) at c.offer.ensures.offers

pub returns-clause-short : goal.returns-clause-short
unfolding tick_label
returns-clause-short g c = rw (c.plain.ensures, c.place.ensures.value, c.plain-words.ensures, c.plain-end.ensures, c.plain-2.ensures) at c.offer.ensures.short
