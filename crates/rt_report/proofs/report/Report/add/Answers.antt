use Rattle.rt_report.proofs.Common.{ap, sym, ◌∙◌, added}
use Rattle.rt_report.proofs.ReportLaws.{report_next}
use Rattle.rt_report.proofs.report.Report.add.Goals as goal

pub returns-clause-stands : goal.returns-clause-stands
returns-clause-stands c = λ set t stands goes. c.take.ensures ∙ ap (added c.args.entry) stands ∙ sym (report_next set t c.args.entry goes)
