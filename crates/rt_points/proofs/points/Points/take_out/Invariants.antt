use Rattle.std.proofs.Common.{◌≡◌, length}
use Rattle.rt_points.specs.Points.{without}
use Rattle.rt_points.specs.Working.Going.{goes}
use Rattle.rt_points.proofs.points.Points.take_out.Given as goal

abbrev pub invariant-loop-place : goal.invariant-loop-place
invariant-loop-place l = without (goes l.going) l.self ≡ without (goes l.going) l.fn.self

abbrev pub decreases-loop-place : goal.decreases-loop-place
decreases-loop-place l = length l.self
