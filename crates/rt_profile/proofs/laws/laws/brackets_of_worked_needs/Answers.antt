use Rattle.rt_profile.proofs.Common.{refl}
use lib.Count.{count_leading_zeros}
use Rattle.rt_profile.proofs.laws.laws.brackets_of_worked_needs.Goals as goal

pub returns-clause-from : goal.returns-clause-from
unfolding count_leading_zeros
returns-clause-from c = refl

pub returns-clause-to : goal.returns-clause-to
unfolding count_leading_zeros
returns-clause-to c = refl
