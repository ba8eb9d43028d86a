use Rattle.rt_report.proofs.Common.{◌≡◌, ℕ, List, ap, subst, ◌∙◌, flat_map, Counts, legal, ReportState, report_at, all_unfinished}
use Rattle.rt_report.specs.DetailText.{unfinished_line, unfinished_text}
use Rattle.rt_report.proofs.TextLemmas.{open_lines_by}
use Rattle.rt_report.proofs.DetailLaws.{unfinished_text_at}
use Rattle.rt_report.proofs.report.Report.write_unfinished.Goals as goal

pub returns : goal.returns
returns g c = λ set t stands named.
    let d = c.args.details in
    let ns = c.args.names.now in
    let m = c.args.self.now in
    let items : c.deref.result.now ≡ m.tasks = c.deref.ensures.value ∙ ap (λ (r : ReportState). r.tasks) c.self.view_is in
    let same : flat_map (unfinished_line d ns) (all_unfinished m.tasks) ≡ unfinished_text d set (legal set t) =
    ap (λ (r : ReportState). flat_map (unfinished_line d ns) (all_unfinished r.tasks)) stands
    ∙ ap (λ (names : List (List ℕ)). flat_map (unfinished_line d names) (all_unfinished (report_at set t).tasks)) named ∙ unfinished_text_at d set t in
    subst (λ (text : List ℕ). Counts g.S.Sink.seen c.args.out.now text c.write.result c.write.new.out) (open_lines_by (unfinished_line d ns) m.tasks ∙ same)
    (rw items at c.write.ensures)
