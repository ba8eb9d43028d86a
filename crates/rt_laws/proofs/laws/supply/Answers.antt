use Rattle.rt_laws.proofs.Supplies.{supplied}
use Rattle.rt_laws.proofs.laws.supply.Goals as goal

pub returns : goal.returns
returns c = supplied
