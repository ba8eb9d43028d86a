use Rattle.std.proofs.Common.{◌≡◌, ◌+◌, ◌≤◌, length}
use Rattle.rt_set.specs.SaidLines.{said_before}
use Rattle.rt_set.specs.SetFile.{set_lines}
use Rattle.rt_set.proofs.said_lines.said_before.Given as goal

-- what is said so far, and in the lines that are left, is all
abbrev pub invariant-loop-left : goal.invariant-loop-left
invariant-loop-left l = record {
  few : l.said + length l.rest ≤ length l.text;
  same : l.said + said_before l.left (set_lines l.rest) ≡ said_before l.number (set_lines l.text);
}

abbrev pub decreases-loop-left : goal.decreases-loop-left
decreases-loop-left l = length l.rest
