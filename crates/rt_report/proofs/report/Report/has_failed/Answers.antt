use Rattle.rt_report.proofs.Common.{ap, ◌∙◌, ReportState}
use Rattle.rt_report.specs.Working.Seen.{seen_at}
use Rattle.rt_report.proofs.FailureLaws.{seen_is}
use Rattle.rt_report.proofs.report.Report.has_failed.Goals as goal

pub returns : goal.returns
returns c = λ set t stands full.
    c.is_seen.ensures ∙ ap (λ (r : ReportState). seen_at c.args.failing c.args.full r c.args.task) stands ∙ seen_is c.args.failing c.args.full set t c.args.task full
