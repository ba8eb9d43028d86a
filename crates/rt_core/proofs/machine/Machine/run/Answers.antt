use Rattle.rt_laws.proofs.Supplies.{supplied}
use Rattle.rt_core.proofs.machine.Machine.run.Goals as goal

pub returns-clause-supplied : goal.returns-clause-supplied
returns-clause-supplied g c = λ set t i r k s ok stands there competes. supplied set _ i r k s ok there competes
