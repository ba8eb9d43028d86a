-- The points that are taken out.
use Rattle.std.specs.Prelude.{Bool}
use Rattle.rt_points.specs.declared.point.Point.{Point}
use Rattle.rt_points.specs.declared.points.Going.{Going}
use Rattle.rt_points.specs.declared.points.Going.TheVariants.{One, OfTask}
use Rattle.rt_points.specs.Points.{is_same, is_own}

abbrev pub goes : Going → Point → Bool
goes (One point) = is_same point
goes (OfTask task) = is_own task
