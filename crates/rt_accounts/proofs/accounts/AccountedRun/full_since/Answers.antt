use Rattle.rt_accounts.proofs.Common.{sym, subst, ◌∙◌, IsAccounted}
use Rattle.rt_accounts.proofs.AccountLemmas.{full_is}
use Rattle.rt_accounts.proofs.accounts.AccountedRun.full_since.Goals as goal

pub returns : goal.returns
returns c = λ set t has.
    let run = subst (IsAccounted set t) (sym c.self.view_is) has in
    c.full_since.ensures ∙ full_is set t c.args.task c.self.inside.machine run.machine
