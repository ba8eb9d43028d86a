use Rattle.rt_waves.proofs.Common.{◌≤◌, ◌+◌, ◌*◌, ◌++◌, length, codes, flat_map, range_with_len, task_head, scope_name, all_differ}
use Rattle.rt_waves.specs.Scale.{scale_line}
use Rattle.rt_waves.proofs.head.HeadText.offer.Given as goal

abbrev pub invariant-loop-task : goal.invariant-loop-task
invariant-loop-task g l =
    let named = all_differ l.self.names.now l.self.count in
    let heads =
    scale_line l.self.scale.now ++ codes "$scope module system $end\n$var wire 1 i idle $end\n"
    ++ flat_map (λ i. task_head (scope_name named l.self.names.now i) i) (range_with_len 0 l.task) in
    record {
      offered : g.O.Out.offers l.fn.out heads l.out;
      short : length heads ≤ 577 + 1588 * l.task;
    }
