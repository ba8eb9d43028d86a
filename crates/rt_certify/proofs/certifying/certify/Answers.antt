use Rattle.rt_certify.proofs.certifying.certify.Goals as goal

pub returns-clause-certified : goal.returns-clause-certified
returns-clause-certified g c = λ set s stands only same.
    let told = c.in_ok-certify_where.ensures.certified set s stands only same in (told.0, told.1.0, told.2)
