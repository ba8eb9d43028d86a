use Rattle.rt_chart.specs.MissText.{miss_title}
use Rattle.rt_chart.proofs.miss_text.MissTitleText.offer.Goals as goal

pub returns-clause-offers : goal.returns-clause-offers
unfolding miss_title
returns-clause-offers g c = rw (c.plain.ensures, c.plain-2.ensures, c.plain-3.ensures, c.plain-end.ensures) at c.offer.ensures.offers

pub returns-clause-short : goal.returns-clause-short
unfolding miss_title
returns-clause-short g c = rw (c.plain.ensures, c.plain-2.ensures, c.plain-3.ensures, c.plain-end.ensures) at c.offer.ensures.short
