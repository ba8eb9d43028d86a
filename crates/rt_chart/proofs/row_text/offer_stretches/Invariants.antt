use Rattle.rt_chart.proofs.Common.{◌≡◌, ◌≤◌, ◌+◌, ◌-◌, ◌*◌, [], length, take, flat_map, Offers, ELEMENT_LEN, titled_text}
use Rattle.rt_chart.proofs.row_text.offer_stretches.Given as goal

abbrev pub invariant-pages : goal.invariant-pages
invariant-pages g l = record {
  within : l.next ≤ length l.stretches;
  empty : l.page ≡ [];
  task : l.numbers.task ≡ l.initial.numbers.task;
  same : l.out.sink.ghost_name ≡ l.initial.out.sink.ghost_name;
  bound : l.out.written ≤ l.initial.out.written + ELEMENT_LEN * l.next;
  offered : Offers g.S.Sink.seen l.initial.out.written l.initial.out.sink.now (flat_map (titled_text l.scale.look l.initial.numbers.task l.title l.period l.bar) (take l.next l.stretches)) l.out.written l.out.sink.now;
}

abbrev pub decreases-pages : goal.decreases-pages
decreases-pages g l = length l.stretches - l.next
