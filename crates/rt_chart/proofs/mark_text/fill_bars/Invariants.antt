use Rattle.rt_chart.proofs.Common.{◌≡◌, ◌≤◌, ◌+◌, ◌-◌, ◌*◌, ◌++◌, length, take, flat_map, ELEMENT_LEN, titled_text}
use Rattle.rt_chart.proofs.mark_text.fill_bars.Given as goal

abbrev pub invariant-elements : goal.invariant-elements
invariant-elements g l = record {
  onward : l.from ≤ l.next;
  within : l.next ≤ length l.stretches;
  short : length l.page + ELEMENT_LEN * l.from ≤ ELEMENT_LEN * l.next;
  task : l.numbers.task ≡ l.initial.numbers.task;
  text : flat_map (titled_text l.scale.look l.initial.numbers.task l.title l.period l.bar) (take l.next l.stretches)
      ≡ flat_map (titled_text l.scale.look l.initial.numbers.task l.title l.period l.bar) (take l.from l.stretches) ++ l.page;
}

abbrev pub decreases-elements : goal.decreases-elements
decreases-elements g l = length l.stretches - l.next
