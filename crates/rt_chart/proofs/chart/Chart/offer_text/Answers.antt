use Rattle.rt_chart.proofs.Common.{◌≡◌, ℕ, length, ap, sym, subst, ◌∙◌, flat_map, Offers, Offers-then, Look, row_text, ChartState, all_finished}
use Rattle.rt_chart.specs.Looks.{look_of}
use Rattle.rt_chart.specs.ChartText.{head_text, axis_text}
use Rattle.rt_chart.proofs.ChartLaws.{length-finished}
use Rattle.rt_chart.proofs.chart.Chart.offer_text.Goals as goal

pub returns-clause-offers : goal.returns-clause-offers
returns-clause-offers g c =
    let seen = g.S.Sink.seen in
    let m = c.args.self.now in
    let ds = all_finished m.window m.tasks in
    let look : c.new-scale.result.look ≡ look_of m.window m.style ds = c.new-scale.ensures ∙ c.look.ensures in
    let count : c.len-count.result ≡ length ds =
    c.len-count.ensures ∙ c.self.inside.tasks.ok.0 ∙ ap (λ (r : ChartState). length r.tasks) c.self.view_is ∙ sym (length-finished m.window m.tasks) in
    let n = length ds in
    let head = subst (λ (l : Look). Offers seen c.args.writer.now.written c.args.writer.now.sink.now (head_text l n) c.offer_head.new.out.written c.offer_head.new.out.sink.now)
    look (subst (λ (k : ℕ). Offers seen c.args.writer.now.written c.args.writer.now.sink.now (head_text c.new-scale.result.look k) c.offer_head.new.out.written c.offer_head.new.out.sink.now)
    count c.offer_head.ensures.offers) in
    let rows = subst (λ (l : Look). Offers seen c.offer_head.new.out.written c.offer_head.new.out.sink.now (flat_map (row_text l) ds) c.offer_rows.new.writer.written c.offer_rows.new.writer.sink.now)
    look c.offer_rows.ensures.offers in
    let axis = subst (λ (l : Look). Offers seen c.offer_rows.new.writer.written c.offer_rows.new.writer.sink.now (axis_text l n) c.offer_axis.new.out.written c.offer_axis.new.out.sink.now)
    look (subst (λ (k : ℕ). Offers seen c.offer_rows.new.writer.written c.offer_rows.new.writer.sink.now (axis_text c.new-scale.result.look k) c.offer_axis.new.out.written c.offer_axis.new.out.sink.now)
    count c.offer_axis.ensures.offers) in
    let front = Offers-then seen _ _ _ _ _ _ _ _ head rows in
    Offers-then seen _ _ _ _ _ _ _ _ front axis
