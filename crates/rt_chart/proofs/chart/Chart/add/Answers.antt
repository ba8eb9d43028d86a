use Rattle.rt_chart.proofs.Common.{ap, sym, ◌∙◌, added}
use Rattle.std.proofs.lemmas.Result.{on_ok_weaker}
use Rattle.rt_chart.proofs.ChartLaws.{chart_next}
use Rattle.rt_chart.proofs.chart.Chart.add.Goals as goal

pub returns-clause-stands : goal.returns-clause-stands
returns-clause-stands c =
    on_ok_weaker c.take.result
    (λ ok. λ except set t stands goes. ok ∙ ap (added c.args.entry) stands ∙ sym (chart_next c.args.self.now.window c.args.self.now.style except set t c.args.entry goes)) c.take.ensures.ok
