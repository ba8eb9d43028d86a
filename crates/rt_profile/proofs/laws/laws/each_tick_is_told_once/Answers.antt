use Rattle.rt_profile.proofs.laws.TickSums.{rows-sum, addresses-sum}
use Rattle.rt_profile.proofs.laws.laws.each_tick_is_told_once.Goals as goal

pub returns-clause-rows : goal.returns-clause-rows
returns-clause-rows c = rows-sum

pub returns-clause-addresses : goal.returns-clause-addresses
returns-clause-addresses c = addresses-sum
