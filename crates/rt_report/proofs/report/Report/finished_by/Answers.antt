use Rattle.rt_report.proofs.Common.{ap, sym, ◌++◌, ◌∙◌, option_to_list, legal, finished_jobs, ReportState}
use Rattle.rt_report.specs.Working.Finishing.{finishing_by}
use Rattle.rt_report.proofs.JobLineLaws.{finished_next}
use Rattle.rt_report.proofs.report.Report.finished_by.Goals as goal

pub returns : goal.returns
returns c = λ set t stands goes.
    finished_next set t c.args.entry.now goes
    ∙ ap (λ (r : ReportState). finished_jobs set (legal set t) ++ option_to_list (finishing_by c.args.entry.now r)) (sym stands)
    ∙ ap (λ r. finished_jobs set (legal set t) ++ option_to_list r) (sym c.finishing.ensures)
