use Rattle.rt_report.proofs.Common.{ap, sym, ◌++◌, ◌∙◌, option_to_list, legal, ReportState}
use Rattle.rt_report.specs.JobDetails.{detailed_jobs}
use Rattle.rt_report.specs.Working.Detailing.{detailing_by}
use Rattle.rt_report.proofs.DetailLaws.{detailed_next}
use Rattle.rt_report.proofs.report.Report.detailed_by.Goals as goal

pub returns : goal.returns
returns c = λ set t stands goes.
    detailed_next set t c.args.entry.now goes
    ∙ ap (λ (r : ReportState). detailed_jobs set (legal set t) ++ option_to_list (detailing_by c.args.entry.now r)) (sym stands)
    ∙ ap (λ r. detailed_jobs set (legal set t) ++ option_to_list r) (sym c.detailing.ensures)
