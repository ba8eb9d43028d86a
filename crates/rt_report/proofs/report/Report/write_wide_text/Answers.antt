use Rattle.rt_report.proofs.Common.{◌≡◌, ℕ, List, map, ap, subst, ◌∙◌, Counts, lines-by, legal, ReportState, wide_row_at, report_at}
use Rattle.rt_report.specs.WideText.{wide_row_text, wide_text_of, wide_text}
use Rattle.rt_report.proofs.TextLemmas.{wide_text_at}
use Rattle.rt_report.proofs.report.Report.write_wide_text.Goals as goal

pub returns-clause-value : goal.returns-clause-value
returns-clause-value g c =
    let m = c.args.self.now in
    let items : c.deref.result.now ≡ m.tasks = c.deref.ensures.value ∙ ap (λ (r : ReportState). r.tasks) c.self.view_is in
    let tick : c.self.inside.clock ≡ m.tick = ap (λ (r : ReportState). r.tick) c.self.view_is in
    rw (tick, c.idle.ensures.value, c.plain.ensures, items, lines-by (wide_row_text c.args.names.now) (wide_row_at m.tick) m.tasks) at c.write.ensures

pub returns-clause-legal : goal.returns-clause-legal
returns-clause-legal g c = λ set t stands named.
    let m = c.args.self.now in
    let ns = c.args.names.now in
    let same : wide_text_of ns (map (wide_row_at m.tick) m.tasks) m.idle ≡ wide_text set t (legal set t) = ap (λ (r : ReportState). wide_text_of ns (map (wide_row_at r.tick) r.tasks) r.idle) stands
    ∙ ap (λ (names : List (List ℕ)). wide_text_of names (map (wide_row_at (report_at set t).tick) (report_at set t).tasks) (report_at set t).idle) named ∙ wide_text_at set t in
    subst (λ (text : List ℕ). Counts g.S.Sink.seen c.args.out.now text c.write.result c.write.new.out) same (returns-clause-value g c)
