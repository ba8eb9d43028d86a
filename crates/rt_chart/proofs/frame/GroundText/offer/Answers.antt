use Rattle.rt_chart.specs.ChartText.{ground_text}
use Rattle.rt_chart.proofs.frame.GroundText.offer.Goals as goal

pub returns-clause-offers : goal.returns-clause-offers
unfolding ground_text
returns-clause-offers g c = rw (c.plain.ensures, c.plain-2.ensures, c.top.ensures.text, c.plain-3.ensures, c.whole_width.ensures, c.plain-4.ensures, c.whole_height.ensures, c.plain-end.ensures) at c.offer.ensures.offers

pub returns-clause-short : goal.returns-clause-short
unfolding ground_text
returns-clause-short g c = rw (c.plain.ensures, c.plain-2.ensures, c.top.ensures.text, c.plain-3.ensures, c.whole_width.ensures, c.plain-4.ensures, c.whole_height.ensures, c.plain-end.ensures) at c.offer.ensures.short
