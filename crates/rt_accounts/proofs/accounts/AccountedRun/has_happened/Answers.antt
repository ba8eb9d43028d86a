use Rattle.rt_accounts.proofs.Common.{sym, subst, ◌∙◌, IsAccounted}
use Rattle.rt_accounts.proofs.accounts.AccountedRun.has_happened.Goals as goal

pub returns : goal.returns
returns c = λ set t has.
    let run = subst (IsAccounted set t) (sym c.self.view_is) has in
    c.has_failed.ensures set t run.report (c.is_some-full.ensures ∙ c.full_since.ensures set t has)
