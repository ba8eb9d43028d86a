use Rattle.rt_waves.proofs.head.ScaleText.offer.Goals as goal

pub returns-clause-offers : goal.returns-clause-offers
returns-clause-offers g c =
    rw (c.word.ensures, c.word-3.ensures, c.word-2.ensures.text, c.word-5.ensures, c.word-4.ensures.text, c.word-6.ensures) at c.offer.ensures.offers
