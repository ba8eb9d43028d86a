use Rattle.rt_admit.proofs.UtilisationLemmas.{at_most_one, over-scaled, under-positive}
use Rattle.rt_admit.proofs.laws.utilisation_is_at_most_one.Goals as goal

pub returns-clause-denominator : goal.returns-clause-denominator
returns-clause-denominator c = λ hyper set ok. under-positive hyper set ok.eligible

pub returns-clause-at_most_one : goal.returns-clause-at_most_one
returns-clause-at_most_one c = λ hyper set ok.
    at_most_one _ _ _ hyper ok.hyper_positive (over-scaled hyper set ok.eligible) ok.load
