use Rattle.std.proofs.Common.{◌≡◌, None}
use Rattle.rt_fault_lines.specs.Calm.{IsCalm}
use Rattle.rt_fault_lines.proofs.fault_lines.lines_of.Given as goal

abbrev pub invariant-loop-number : goal.invariant-loop-number
invariant-loop-number g l = IsCalm l.machine → l.lines ≡ None
