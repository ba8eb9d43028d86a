use Rattle.rt_chart.proofs.Common.{◌≡◌, ◌<◌, length, get_or, ap, subst, ◌∙◌, arith, Offers, Offers-then, Window, row_text, finished, ChartState}
use Rattle.rt_chart.proofs.ChartLaws.{rows_text-more}
use Rattle.rt_chart.proofs.chart.Chart.offer_rows.Goals as goal

pub loop-task-preserved : goal.loop-task-preserved
loop-task-preserved g c =
    let seen = g.S.Sink.seen in
    let w = c.args.self.now.window in
    let l = c.args.scale.now.look in
    let n = c.loop-task.task in
    let xs = c.args.self.now.tasks in
    let x = c.sketch-item.result in
    let items : c.deref-sketch-items.result.now ≡ xs = c.deref-sketch-items.ensures.value ∙ ap (λ (r : ChartState). r.tasks) c.self.view_is in
    let count : length c.deref-sketch-items.result.now ≡ length xs = ap length items in
    let below : n < length xs = omega (arith, count, c.loop-task-test.true) in
    let here : x ≡ get_or xs n x = rw items at c.sketch-item.is in
    let more = rows_text-more l w n xs x below here in
    let row = subst (λ (v : Window). Offers seen c.loop-task.writer.written c.loop-task.writer.sink.now (row_text l (finished v n x)) c.offer_row.new.out.written c.offer_row.new.out.sink.now)
    c.requires.window c.offer_row.ensures.offers in
    let offered = Offers-then seen _ _ _ _ _ _ _ _ c.loop-task.invariant.offered row in
    record {
      same = c.offer_row.ensures.same ∙ c.loop-task.invariant.same;
      bound = omega (arith, c.offer_row.ensures.bound, c.loop-task.invariant.bound);
      offered = rw more offered;
    }
