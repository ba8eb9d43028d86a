use Rattle.rt_chart.proofs.Common.{◌≡◌, ◌≤◌, ◌+◌, ◌-◌, ◌*◌, ◌%◌, min, flat_map, range_with_len, Offers, ticks_in, part_at}
use Rattle.rt_chart.specs.declared.element.TheConstants.{TEXT_LEN}
use Rattle.rt_chart.proofs.axis.offer_parts.Given as goal

abbrev pub invariant-ticks : goal.invariant-ticks
invariant-ticks g l = record {
  multiple : l.tick % l.step ≡ 0;
  onward : l.scale.look.window.from ≤ l.tick;
  near : l.tick ≤ l.scale.look.window.to + l.step;
  same : l.out.sink.ghost_name ≡ l.initial.out.sink.ghost_name;
  bound : l.out.written ≤ l.initial.out.written + TEXT_LEN * min (l.tick - l.scale.look.window.from) (ticks_in l.scale.look.window + 1);
  offered : Offers g.S.Sink.seen l.initial.out.written l.initial.out.sink.now
      (flat_map (part_at l.scale.look l.part) (range_with_len l.scale.look.window.from (min (l.tick - l.scale.look.window.from) (ticks_in l.scale.look.window + 1)))) l.out.written l.out.sink.now;
}

abbrev pub decreases-ticks : goal.decreases-ticks
decreases-ticks g l = l.scale.look.window.to + 1 - l.tick
