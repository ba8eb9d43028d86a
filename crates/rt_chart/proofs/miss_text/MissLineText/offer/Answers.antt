use Rattle.rt_chart.specs.MissText.{miss_line}
use Rattle.rt_chart.proofs.miss_text.MissLineText.offer.Goals as goal

pub returns-clause-offers : goal.returns-clause-offers
unfolding miss_line
returns-clause-offers g c = rw (c.plain.ensures, c.from.ensures, c.plain-2.ensures, c.plain-3.ensures, c.place.ensures.value, c.plain-4.ensures, c.plain-5.ensures, c.row_height.ensures.value, c.plain-end.ensures) at c.offer.ensures.offers

pub returns-clause-short : goal.returns-clause-short
unfolding miss_line
returns-clause-short g c = rw (c.plain.ensures, c.from.ensures, c.plain-2.ensures, c.plain-3.ensures, c.place.ensures.value, c.plain-4.ensures, c.plain-5.ensures, c.row_height.ensures.value, c.plain-end.ensures) at c.offer.ensures.short
