use Rattle.rt_laws.proofs.Common.{◌≡◌, ◌-◌, ◌≤◌, length, All, after_ticks, HasRoom}
use Rattle.rt_laws.proofs.breach.breaching.run.Given as goal

abbrev pub invariant-loop-left : goal.invariant-loop-left
invariant-loop-left l = record {
  within : l.left ≤ l.ticks;
  some : 1 ≤ length l.servers;
  room : All (HasRoom l.left) l.servers;
  so_far : l.servers ≡ after_ticks (l.ticks - l.left) l.fn.servers;
}

abbrev pub decreases-loop-left : goal.decreases-loop-left
decreases-loop-left l = l.left
