-- Which watchpoints have a byte of an access, whatever task and kind they are of.
use Rattle.std.specs.Prelude.{Bool, ◌&&◌}
use Rattle.std.specs.Option.{is_some}
use Rattle.rt_points.specs.declared.point.Point.{Point}
use Rattle.rt_points.specs.declared.access.Access.{Access}
use Rattle.rt_points.specs.Met.{is_watch, first_byte}

abbrev pub is_touched : Access → Point → Bool
is_touched access point = is_watch point && is_some (first_byte access point)
