use Rattle.rt_waves.proofs.head.TaskPartText.offer.Goals as goal

pub returns-clause-offers : goal.returns-clause-offers
returns-clause-offers g c = rw (c.word.ensures, c.word-2.ensures) at c.offer.ensures.offers
