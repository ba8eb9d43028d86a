use Rattle.rt_profile.proofs.Common.{attempts, part}
use Rattle.rt_profile.proofs.laws.PartLaws.{part-sum}
use Rattle.rt_profile.proofs.laws.laws.rows_are_sums_of_addresses.Goals as goal

pub returns : goal.returns
returns c = λ i s history a. part-sum s.object.labels (part s.object.labels a) (attempts i history)
