use Rattle.rt_packet.proofs.Common.{◌≡◌, ◌+◌, ◌*◌, ◌≤◌, ◌++◌, take, flat_map, array_vec_len, other_text}
use Rattle.rt_packet.proofs.answer.ids.push_others.Given as goal

abbrev pub invariant-loop-task : goal.invariant-loop-task
invariant-loop-task l = record {
  text : l.out.items ≡ l.initial.out.items ++ flat_map (other_text l.ids) (take l.task-index l.tasks);
  room : array_vec_len l.out ≤ array_vec_len l.initial.out + 35 * l.task-index;
}
