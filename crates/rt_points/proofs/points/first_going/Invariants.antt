use Rattle.std.proofs.Common.{◌≡◌, take, false}
use Rattle.std.specs.List.{list_any}
use Rattle.rt_points.specs.Working.Going.{goes}
use Rattle.rt_points.proofs.points.first_going.Given as goal

abbrev pub invariant-loop-place : goal.invariant-loop-place
invariant-loop-place l = list_any (goes l.going) (take l.place l.points) ≡ false
