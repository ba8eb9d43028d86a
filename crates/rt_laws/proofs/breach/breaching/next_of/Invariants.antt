use Rattle.rt_laws.proofs.Common.{◌≤◌, length, IsFirstBest}
use Rattle.rt_laws.proofs.breach.Firsts.{goes_before}
use Rattle.rt_laws.proofs.breach.breaching.next_of.Given as goal

abbrev pub invariant-loop-i : goal.invariant-loop-i
invariant-loop-i l = record { within : l.i ≤ length l.servers; best : IsFirstBest goes_before l.servers l.i l.next }
