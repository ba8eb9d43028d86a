use Rattle.rt_report.proofs.Common.{ap, ◌∙◌, ReportState}
use Rattle.rt_report.proofs.ReportLaws.{idle_at}
use Rattle.rt_report.proofs.report.Report.idle.Goals as goal

pub returns-clause-legal : goal.returns-clause-legal
returns-clause-legal c = λ set t stands. ap (λ (r : ReportState). r.idle) (c.self.view_is ∙ stands) ∙ idle_at set t
