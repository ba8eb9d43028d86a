use Rattle.rt_laws.proofs.Supplies.{first_fresh}
use Rattle.rt_laws.proofs.laws.first_wake_is_fresh.Goals as goal

pub returns : goal.returns
returns c = first_fresh
