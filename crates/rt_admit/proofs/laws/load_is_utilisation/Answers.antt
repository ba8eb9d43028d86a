use Rattle.rt_admit.proofs.UtilisationLemmas.{at_most_one, within_whole, over-scaled, under-positive}
use Rattle.rt_admit.proofs.laws.load_is_utilisation.Goals as goal

pub returns : goal.returns
returns c = λ hyper set positive ok. (
  at_most_one _ _ _ hyper positive (over-scaled hyper set ok),
  within_whole _ _ _ hyper (under-positive hyper set ok) (over-scaled hyper set ok),
)
