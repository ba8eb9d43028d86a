use Rattle.rt_report.proofs.Common.{ap, sym, ◌∙◌, added_plain}
use Rattle.rt_report.proofs.PlainLaws.{report_plain}
use Rattle.rt_report.proofs.report.Report.add_plain.Goals as goal

pub returns-clause-stands : goal.returns-clause-stands
returns-clause-stands c = λ set t stands plain.
    c.take_plain.ensures ∙ ap (added_plain c.args.task c.args.n) stands ∙ sym (report_plain set t c.args.task c.args.n plain)
