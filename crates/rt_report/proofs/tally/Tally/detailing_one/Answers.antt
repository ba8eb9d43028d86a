use Rattle.rt_report.proofs.Common.{◌≡◌, refl, subst, gone_on, TaskReport, spanned, detail_in}
use Rattle.rt_report.proofs.tally.Tally.detailing_one.Goals as goal

pub returns : goal.returns
returns c =
    let u = c.args.u in
    let o = c.args.outcome in
    let x = c.args.self.now in
    let detail : c.detail.result ≡ detail_in (gone_on (u, o) x.open_job) (spanned u x.open_job.ticks x.span) =
    subst (λ (y : TaskReport). c.detail.result ≡ detail_in (gone_on (u, o) y.open_job) (spanned u y.open_job.ticks y.span)) c.self.view_is
    (rw (c.detail.ensures, c.with_tick.ensures u, c.add_tick.ensures, c.ticks.ensures) refl) in
    let period : c.p.result ≡ x.serving.account.p = subst (λ (y : TaskReport). c.p.result ≡ y.serving.account.p) c.self.view_is (rw (c.p.ensures, c.server.ensures) refl) in
    rw (c.closing.ensures, detail, period) refl
