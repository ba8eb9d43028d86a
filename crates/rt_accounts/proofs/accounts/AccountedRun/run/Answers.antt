use Rattle.rt_accounts.proofs.Common.{◌≡◌, ℕ, sym, ap, subst, ◌∙◌, state_at, IsAccounted}
use Rattle.rt_report.specs.Standing.{report_at}
use Rattle.rt_accounts.proofs.JobLemmas.{own-tick, own-state}
use Rattle.rt_accounts.proofs.accounts.AccountedRun.run.Goals as goal

pub returns-clause-stands : goal.returns-clause-stands
returns-clause-stands g c = λ set t has.
    let run = subst (IsAccounted set t) (sym c.self.view_is) has in
    let machine = c.self.inside.machine in
    let report = c.self.inside.report in
    let own = own-state set t machine run.machine in
    let told : report ≡ report_at set machine.tick = subst (λ (u : ℕ). report ≡ report_at set u) (sym (own-tick set t machine run.machine)) run.report in
    record {
      machine = c.in-Ok.ensures.stands set own ∙ ap (state_at set) c.in-Ok.ensures.arrives;
      report = c.in-Ok.ensures.told report set own told;
      names = run.names;
    }
