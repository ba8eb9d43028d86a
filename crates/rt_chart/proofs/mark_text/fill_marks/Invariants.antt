use Rattle.rt_chart.proofs.Common.{◌≡◌, ◌≤◌, ◌+◌, ◌-◌, ◌*◌, ◌++◌, length, take, flat_map, ELEMENT_LEN, mark_text}
use Rattle.rt_chart.proofs.mark_text.fill_marks.Given as goal

abbrev pub invariant-elements : goal.invariant-elements
invariant-elements l = record {
  onward : l.from ≤ l.next;
  within : l.next ≤ length l.marks;
  short : length l.page + ELEMENT_LEN * l.from ≤ ELEMENT_LEN * l.next;
  task : l.numbers.task ≡ l.initial.numbers.task;
  text : flat_map (mark_text l.scale.look l.initial.numbers.task) (take l.next l.marks)
      ≡ flat_map (mark_text l.scale.look l.initial.numbers.task) (take l.from l.marks) ++ l.page;
}

abbrev pub decreases-elements : goal.decreases-elements
decreases-elements l = length l.marks - l.next
