use Rattle.rt_programs.proofs.overload_lines.BreachLineText.offer.Goals as goal

pub returns-clause-offers : goal.returns-clause-offers
returns-clause-offers g c =
    rw (c.plain.ensures, c.from.ensures, c.plain-2.ensures, c.from-2.ensures, c.plain-3.ensures, c.plain-4.ensures, c.from-3.ensures) at c.offer.ensures.offers
