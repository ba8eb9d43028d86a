-- The tasks that are let go.
use Rattle.std.specs.Prelude.{ℕ, ◌-◌, ◌&&◌, nat_le, nat_lt, if◌then◌else◌, Bool, true, false, [], slice_set, replicate, Option, Some, None}
use Rattle.std.specs.Option.{option_map_or}
use Rattle.rt_points.specs.Points.{without, is_own}
use Rattle.rt_remote.specs.Remote.{RemoteState, is_listed}

-- the task of a process, which has the task's number plus 1, of at most 64
abbrev pub task_of : ℕ → Option ℕ
task_of n = if nat_lt 0 n && nat_le n 64 then Some (n - 1) else None

abbrev pub may_go : RemoteState → ℕ → Bool
may_go state n = option_map_or (is_listed state) (task_of n) false

-- without tasks that are let go, and without their points
abbrev pub without_task : ℕ → RemoteState → RemoteState
without_task i state = record state { points = without (is_own i) state.points; selection = record state.selection { gone = slice_set state.selection.gone i true } }

abbrev pub without_tasks : RemoteState → RemoteState
without_tasks state = record state { points = []; selection = record state.selection { gone = replicate 64 true } }
