use Rattle.std.proofs.Common.{◌≡◌, ◌+◌, ◌≤◌, length}
use Rattle.rt_set.specs.SaidLines.{task_line_from, line_of_task}
use Rattle.rt_set.specs.SetFile.{set_lines}
use Rattle.rt_set.proofs.said_lines.line_of_task.Given as goal

-- the line that is sought is one of those that are left
abbrev pub invariant-loop-rest : goal.invariant-loop-rest
invariant-loop-rest l = record {
  counted : l.number + length l.rest ≤ length l.text + 1;
  few : l.said ≤ l.number;
  same : line_of_task l.task (set_lines l.text) ≡ task_line_from l.task l.number l.said (set_lines l.rest);
}

abbrev pub decreases-loop-rest : goal.decreases-loop-rest
decreases-loop-rest l = length l.rest
