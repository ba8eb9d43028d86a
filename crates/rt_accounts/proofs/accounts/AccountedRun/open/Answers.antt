use Rattle.rt_opening.proofs.SystemLemmas.{sizes_fit}
use Rattle.rt_accounts.proofs.accounts.AccountedRun.open.Goals as goal

pub open_set-requires-clause-sizes : goal.open_set-requires-clause-sizes
open_set-requires-clause-sizes c = sizes_fit c.in_ok-system.system.version c.in_ok-system.system.tasks.items c.in_ok-system.ensures.found.0.tasks_fit
