use Rattle.rt_accounts.proofs.Common.{sym, subst, IsAccounted}
use Rattle.rt_accounts.proofs.accounts.AccountedRun.write_unfinished.Goals as goal

pub returns : goal.returns
returns g c = λ set t has.
    let run = subst (IsAccounted set t) (sym c.self.view_is) has in
    c.write_behind.ensures set t run.report run.names
