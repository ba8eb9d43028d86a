use Rattle.std.proofs.Common.{◌≡◌, length}
use Rattle.rt_bench.proofs.sum_of.Given as goal

-- the capacity stays
abbrev pub invariant-loop : goal.invariant-loop
invariant-loop g l = length (g.Q.MinQueue.keys l.queue) ≡ l.capacity
