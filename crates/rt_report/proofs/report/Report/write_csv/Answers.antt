use Rattle.rt_report.proofs.Common.{◌≡◌, ℕ, List, map, ap, subst, ◌∙◌, Counts, lines-by, legal, ReportState, wide_row_at, report_at}
use Rattle.rt_report.specs.CsvText.{csv_line, csv_text_of, csv_text}
use Rattle.rt_report.proofs.TextLemmas.{csv_text_at}
use Rattle.rt_report.proofs.report.Report.write_csv.Goals as goal

pub returns-clause-value : goal.returns-clause-value
returns-clause-value g c =
    let m = c.args.self.now in
    let items : c.deref.result.now ≡ m.tasks = c.deref.ensures.value ∙ ap (λ (r : ReportState). r.tasks) c.self.view_is in
    let tick : c.self.inside.clock ≡ m.tick = ap (λ (r : ReportState). r.tick) c.self.view_is in
    rw (c.plain.ensures, items, tick, lines-by (csv_line c.args.names.now) (wide_row_at m.tick) m.tasks) at c.write.ensures

pub returns-clause-legal : goal.returns-clause-legal
returns-clause-legal g c = λ set t stands named.
    let m = c.args.self.now in
    let ns = c.args.names.now in
    let same : csv_text_of ns (map (wide_row_at m.tick) m.tasks) ≡ csv_text set t (legal set t) = ap (λ (r : ReportState). csv_text_of ns (map (wide_row_at r.tick) r.tasks)) stands
    ∙ ap (λ (names : List (List ℕ)). csv_text_of names (map (wide_row_at (report_at set t).tick) (report_at set t).tasks)) named ∙ csv_text_at set t in
    subst (λ (text : List ℕ). Counts g.S.Sink.seen c.args.out.now text c.write.result c.write.new.out) same (returns-clause-value g c)
