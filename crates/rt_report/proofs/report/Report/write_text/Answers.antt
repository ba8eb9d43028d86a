use Rattle.rt_report.proofs.Common.{◌≡◌, ℕ, List, map, ap, subst, ◌∙◌, Counts, lines-by, legal, TaskReport, ReportState}
use Rattle.rt_report.specs.ReportText.{row_text, text_of, report_text}
use Rattle.rt_report.proofs.TextLemmas.{text_at}
use Rattle.rt_report.proofs.report.Report.write_text.Goals as goal

pub returns-clause-value : goal.returns-clause-value
returns-clause-value g c =
    let m = c.args.self.now in
    let items : c.deref.result.now ≡ m.tasks = c.deref.ensures.value ∙ ap (λ (r : ReportState). r.tasks) c.self.view_is in
    rw (c.idle.ensures.value, c.plain.ensures, items, lines-by row_text (λ (x : TaskReport). x.row) m.tasks) at c.write.ensures

pub returns-clause-legal : goal.returns-clause-legal
returns-clause-legal g c = λ set t stands.
    let m = c.args.self.now in
    let same : text_of (map (λ x. x.row) m.tasks) m.idle ≡ report_text set (legal set t) = ap (λ (r : ReportState). text_of (map (λ x. x.row) r.tasks) r.idle) stands ∙ text_at set t in
    subst (λ (text : List ℕ). Counts g.S.Sink.seen c.args.out.now text c.write.result c.write.new.out) same (returns-clause-value g c)
