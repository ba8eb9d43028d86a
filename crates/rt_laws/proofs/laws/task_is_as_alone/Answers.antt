use Rattle.rt_laws.proofs.Isolation.{as_alone}
use Rattle.rt_laws.proofs.laws.task_is_as_alone.Goals as goal

pub returns : goal.returns
returns c = as_alone
