use Rattle.rt_accounts.proofs.Common.{sym, subst, IsAccounted}
use Rattle.rt_accounts.proofs.accounts.AccountedRun.write_run.Goals as goal

pub returns-clause-writes : goal.returns-clause-writes
returns-clause-writes g c = λ set has. c.write_run-written.ensures.counts set (subst (IsAccounted set 0) (sym c.self.view_is) has).machine
