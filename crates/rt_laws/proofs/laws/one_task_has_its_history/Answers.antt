use Rattle.rt_laws.proofs.OneTask.{one_history}
use Rattle.rt_laws.proofs.laws.one_task_has_its_history.Goals as goal

pub returns : goal.returns
returns c = one_history
