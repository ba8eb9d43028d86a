use Rattle.rt_remote.proofs.Common.{◌≡◌, ◌≤◌, length, filter, range_with_len, is_listed}
use Rattle.rt_remote.proofs.session.Session.listed.Given as goal

abbrev pub invariant-loop-task : goal.invariant-loop-task
invariant-loop-task g l = record {
  few : length l.listed.items ≤ l.task;
  those : l.listed.items ≡ filter (is_listed l.self) (range_with_len 0 l.task);
}
