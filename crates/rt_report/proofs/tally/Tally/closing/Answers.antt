use Rattle.rt_report.proofs.Common.{◌≡◌, refl, subst, TaskReport}
use Rattle.rt_report.specs.Working.Finishing.{closing}
use Rattle.rt_report.proofs.tally.Tally.closing.Goals as goal

pub returns : goal.returns
returns c =
    subst (λ (x : TaskReport). c.told.result ≡ closing c.args.u c.args.outcome x) c.self.view_is
    (rw (c.told.ensures, c.with_tick-job.ensures c.args.u, c.p.ensures, c.server.ensures) refl)
