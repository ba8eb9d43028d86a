use Rattle.rt_perform.proofs.Common.{inr}
use Rattle.rt_perform.proofs.packing.read_task.Goals as goal

pub returns-in-Err-clause-unread : goal.returns-in-Err-clause-unread
returns-in-Err-clause-unread g c = inr c.in-Err.ensures
