use Rattle.rt_chart.specs.Axis.{grid_begin}
use Rattle.rt_chart.proofs.axis.GridBeginText.offer.Goals as goal

pub returns-clause-offers : goal.returns-clause-offers
unfolding grid_begin
returns-clause-offers g c = rw (c.label_room.ensures.value, c.plain-end.ensures, c.plain.ensures) at c.offer.ensures.offers

pub returns-clause-short : goal.returns-clause-short
unfolding grid_begin
returns-clause-short g c = rw (c.label_room.ensures.value, c.plain-end.ensures, c.plain.ensures) at c.offer.ensures.short
