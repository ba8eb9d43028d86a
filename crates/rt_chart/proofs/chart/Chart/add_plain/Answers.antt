use Rattle.rt_chart.proofs.Common.{ap, sym, ◌∙◌}
use Rattle.std.proofs.lemmas.Result.{IfOk-weaker}
use Rattle.rt_chart.specs.Working.Drawn.{added_plain}
use Rattle.rt_chart.proofs.PlainLaws.{chart_plain}
use Rattle.rt_chart.proofs.chart.Chart.add_plain.Goals as goal

pub returns-clause-stands : goal.returns-clause-stands
returns-clause-stands c =
    IfOk-weaker c.take_plain.result _ _
    (λ k taken. λ except set t stands plain. taken ∙ ap (added_plain c.args.task k) stands ∙ sym (chart_plain c.args.self.now.window c.args.self.now.style except set t c.args.task k plain)) c.take_plain.ensures.ok
