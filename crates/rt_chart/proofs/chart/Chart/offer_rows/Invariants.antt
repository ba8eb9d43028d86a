use Rattle.rt_chart.proofs.Common.{◌≡◌, ◌≤◌, ◌+◌, ◌*◌, take, flat_map, Offers, row_text, all_finished}
use Rattle.std.proofs.Common.{◌^◌}
use Rattle.rt_chart.proofs.chart.Chart.offer_rows.Given as goal

abbrev pub invariant-loop-task : goal.invariant-loop-task
invariant-loop-task g l = record {
  same : l.writer.sink.ghost_name ≡ l.initial.writer.sink.ghost_name;
  bound : l.writer.written ≤ l.initial.writer.written + 2 ^ 54 * l.task;
  offered : Offers g.S.Sink.seen l.initial.writer.written l.initial.writer.sink.now (flat_map (row_text l.scale.look) (all_finished l.self.window (take l.task l.self.tasks))) l.writer.written l.writer.sink.now;
}
