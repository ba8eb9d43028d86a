use Rattle.rt_profile.proofs.laws.MostSums.{each-between, longest-sum}
use Rattle.rt_profile.proofs.laws.laws.most_is_between.Goals as goal

pub returns-clause-each : goal.returns-clause-each
returns-clause-each c = each-between

pub returns-clause-all : goal.returns-clause-all
returns-clause-all c = longest-sum
