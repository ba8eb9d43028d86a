use Rattle.rt_chart.proofs.Common.{◌≡◌, ℕ, List, ap, subst, ◌∙◌, legal, ChartState, all_finished}
use Rattle.rt_sink.specs.Sink.{Counts}
use Rattle.rt_chart.specs.ChartText.{text_of, chart_text}
use Rattle.rt_chart.proofs.ChartLaws.{text_at}
use Rattle.rt_chart.proofs.chart.Chart.write_offered.Goals as goal

pub returns-clause-legal : goal.returns-clause-legal
returns-clause-legal g c = λ except set stands.
    let seen = g.S.Sink.seen in
    let m = c.args.self.now in
    let told = text_of m.window m.style (all_finished m.window m.tasks) in
    let counts = c.end.ensures c.args.writer.now.sink.now told c.requires.is_open (rw c.requires.count at c.offer_text.ensures.offers) in
    let same : told ≡ chart_text m.window m.style except set (legal set m.window.to) =
    ap (λ (r : ChartState). text_of m.window m.style (all_finished m.window r.tasks)) stands ∙ text_at m.window m.style except set in
    subst (λ (text : List ℕ). Counts seen c.args.writer.now.sink.now text c.end.result c.offer_text.new.writer.sink.now) same counts
