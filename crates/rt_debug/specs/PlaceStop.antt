-- A stop for one task at one pc.
use Rattle.std.specs.Prelude.{ℕ, ◌==◌, ◌&&◌, Bool}
use Rattle.rt_points.specs.declared.marks.Place.{Place as PlaceStop}

abbrev pub is_at : PlaceStop → ℕ → ℕ → Bool
is_at stop task pc = (stop.task == task) && (stop.pc == pc)
