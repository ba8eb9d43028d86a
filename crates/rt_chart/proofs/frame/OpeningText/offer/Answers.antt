use Rattle.rt_chart.specs.ChartText.{opening_text}
use Rattle.rt_chart.proofs.frame.OpeningText.offer.Goals as goal

pub returns-clause-offers : goal.returns-clause-offers
unfolding opening_text
returns-clause-offers g c = rw (c.plain-begin.ensures, c.whole_width.ensures, c.plain.ensures, c.whole_height.ensures, c.plain-2.ensures, c.plain-3.ensures, c.top.ensures.text, c.plain-4.ensures, c.plain-5.ensures, c.plain-6.ensures, c.plain-7.ensures, c.saturating_sub.ensures, c.plain-8.ensures) at c.offer.ensures.offers

pub returns-clause-short : goal.returns-clause-short
unfolding opening_text
returns-clause-short g c = rw (c.plain-begin.ensures, c.whole_width.ensures, c.plain.ensures, c.whole_height.ensures, c.plain-2.ensures, c.plain-3.ensures, c.top.ensures.text, c.plain-4.ensures, c.plain-5.ensures, c.plain-6.ensures, c.plain-7.ensures, c.saturating_sub.ensures, c.plain-8.ensures) at c.offer.ensures.short
