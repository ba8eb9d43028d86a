use Rattle.rt_accounts.proofs.Common.{◌≡◌, ℕ, sym, subst, legal, listed_text, IsAccounted}
use Rattle.std.proofs.Common.{◌++◌}
use Rattle.rt_report.specs.Standing.{report_at}
use Rattle.rt_accounts.proofs.JobLemmas.{own-tick, own-state}
use Rattle.rt_accounts.proofs.accounts.AccountedRun.write_jobs_until.Goals as goal

pub returns-clause-writes : goal.returns-clause-writes
returns-clause-writes g c = λ set t has.
    let run = subst (IsAccounted set t) (sym c.self.view_is) has in
    let machine = c.self.inside.machine in
    let at = own-tick set t machine run.machine in
    let begun = subst (λ (u : ℕ). c.self.inside.report ≡ report_at set u) (sym at) run.report in
    let w = c.write_lines.ensures.writes set (own-state set t machine run.machine) begun run.names in
    let wrote = rw c.in-Err.is at w.2 in
    record {
      more = w.0;
      grown = subst (λ (u : ℕ). listed_text c.args.details set (legal set c.args.n) ≡ listed_text c.args.details set (legal set u) ++ w.0) at w.1;
      written = wrote;
      run = tt;
    }

pub returns-in-Ok-clause-writes : goal.returns-in-Ok-clause-writes
returns-in-Ok-clause-writes g c = λ set t has.
    let run = subst (IsAccounted set t) (sym c.self.view_is) has in
    let machine = c.self.inside.machine in
    let at = own-tick set t machine run.machine in
    let here = own-state set t machine run.machine in
    let begun = subst (λ (u : ℕ). c.self.inside.report ≡ report_at set u) (sym at) run.report in
    let w = c.write_lines.ensures.writes set here begun run.names in
    let wrote = rw c.in-Ok.is at w.2 in
    let now = c.in-Ok.ensures.stands set here begun run.names in
    record {
      more = w.0;
      grown = subst (λ (u : ℕ). listed_text c.args.details set (legal set c.args.n) ≡ listed_text c.args.details set (legal set u) ++ w.0) at w.1;
      written = wrote.1;
      run = record { machine = now.0; report = now.1; names = run.names };
    }
