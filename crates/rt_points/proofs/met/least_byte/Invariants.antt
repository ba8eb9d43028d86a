use Rattle.std.proofs.Common.{◌≡◌, drop}
use Rattle.rt_points.specs.Met.{lesser, least_byte}
use Rattle.rt_points.proofs.met.least_byte.Given as goal

abbrev pub invariant-loop-point : goal.invariant-loop-point
invariant-loop-point l = least_byte l.kind l.task l.access l.points ≡ lesser l.least (least_byte l.kind l.task l.access (drop l.point-index l.points))
