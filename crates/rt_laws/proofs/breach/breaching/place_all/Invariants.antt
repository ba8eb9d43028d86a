use Rattle.rt_laws.proofs.Common.{◌≡◌, take, map, past}
use Rattle.rt_laws.proofs.breach.breaching.place_all.Given as goal

abbrev pub invariant-loop-i : goal.invariant-loop-i
invariant-loop-i l = take l.i l.servers ≡ map (past l.tick) (take l.i l.params)
