use Rattle.rt_profile.proofs.Common.{attempts}
use Rattle.rt_profile.proofs.laws.PartLaws.{rows-once}
use Rattle.rt_profile.proofs.laws.laws.rows_are_of_parts_with_ticks.Goals as goal

pub returns : goal.returns
returns c = λ i s history k. rows-once s.object.labels k (attempts i history)
