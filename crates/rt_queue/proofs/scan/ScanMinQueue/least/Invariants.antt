use Rattle.std.proofs.Common.{take}
use Rattle.rt_queue.proofs.Common.{IsLeast}
use Rattle.rt_queue.proofs.scan.ScanMinQueue.least.Given as goal

abbrev pub invariant-loop-number : goal.invariant-loop-number
invariant-loop-number l = IsLeast (take l.number l.key-items) l.least
