use Rattle.rt_chart.specs.ChartText.{stands_at}
use Rattle.rt_chart.proofs.row_text.StandsAtText.offer.Goals as goal

pub returns-clause-offers : goal.returns-clause-offers
unfolding stands_at
returns-clause-offers g c = rw (c.plain.ensures, c.args.self.now.scale.now.is, c.plain-2.ensures, c.words_top.ensures, c.plain-3.ensures, c.plain-word.ensures, c.stands_word.ensures.text, c.plain-4.ensures) at c.offer.ensures.offers

pub returns-clause-short : goal.returns-clause-short
unfolding stands_at
returns-clause-short g c = rw (c.plain.ensures, c.args.self.now.scale.now.is, c.plain-2.ensures, c.words_top.ensures, c.plain-3.ensures, c.plain-word.ensures, c.stands_word.ensures.text, c.plain-4.ensures) at c.offer.ensures.short
