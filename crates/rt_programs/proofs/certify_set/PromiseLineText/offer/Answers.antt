use Rattle.rt_programs.proofs.certify_set.PromiseLineText.offer.Goals as goal

pub returns-in-Some-clause-offers : goal.returns-in-Some-clause-offers
returns-in-Some-clause-offers g c = rw c.in-Some.is (rw (c.plain.ensures, c.plain-behind.ensures) at c.offer.ensures.offers)
