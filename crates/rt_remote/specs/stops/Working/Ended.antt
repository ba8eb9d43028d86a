-- How a way on ends: where it begins, and where its search has come to stand still.
use Rattle.std.specs.Prelude.{ℕ, ◌==◌, ◌&&◌, not, nat_lt, min, if◌then◌else◌, Bool, true, false, Option, Some, None}
use Rattle.rt_words.specs.Limits.{tick_limit}
use Rattle.rt_history.specs.MachineState.{MachineState}
use Rattle.rt_walk.specs.declared.halt.Sought.{Sought}
use Rattle.rt_walk.specs.declared.halt.Sought.TheVariants.{Met, Unmet, Paused}
use Rattle.rt_walk.specs.Met.{ahead_of, first_of}
use Rattle.rt_packet.specs.declared.answer.stops.Stop.{Stop}
use Rattle.rt_packet.specs.declared.answer.stops.Stop.TheVariants.{Plain, Ended, Faulted, Break, Watch, Happened, AtTick, End, Interrupted}
use Rattle.rt_remote.specs.declared.stops.told.Told.{Told}
use Rattle.rt_remote.specs.declared.stops.onward.Onward.{Onward}
use Rattle.rt_remote.specs.stops.Looked.{teller}
use Rattle.rt_remote.specs.stops.Ahead.{told}
use Rattle.rt_remote.specs.stops.Onward.{is_stop, met_on, over_told}

-- a stop that is no task's own, at a machine
abbrev pub general_at : Onward → MachineState → Stop → Told
general_at way m stop = told (teller way.actions.now way.shown m) stop

-- what is told where it begins, if it ends there
abbrev pub start_told : Onward → MachineState → Option Told
start_told way m =
    first_of (over_told way m) (first_of (ahead_of (met_on way true) m) (if m.tick == tick_limit then Some (general_at way m End) else None))

-- the last tick that it may lead to
abbrev pub end_tick : Option ℕ → ℕ → ℕ
end_tick None start = tick_limit
end_tick (Some stop) start = if nat_lt start stop then min stop tick_limit else tick_limit

-- whether a stop is met before an attempt
abbrev pub is_ahead : Stop → Bool
is_ahead (Break kind) = true
is_ahead (Watch watched) = true
is_ahead stop = false

-- whether it is a task's own: met by its attempt, or before it
abbrev pub is_own : Stop → Bool
is_own Plain = true
is_own Ended = true
is_own (Faulted fault) = true
is_own (Break kind) = true
is_own (Watch watched) = true
is_own (Happened event job) = true
is_own stop = false

-- why it ends at its last tick, where nothing is met
abbrev pub end_stop : Bool → Stop
end_stop is_at_stop = if is_at_stop then AtTick else End

-- whether what is met is told: the tick stop goes before what is met ahead there
abbrev pub tells : Bool → Stop → Bool
tells is_at_stop stop = is_own stop && not (is_at_stop && is_ahead stop)

-- what is told where it stands still
abbrev pub end_told : Onward → MachineState → Sought Told → Told
end_told way m (Met found) = if tells (is_stop way.tick_stop m.tick) found.stop then found else general_at way m (end_stop (is_stop way.tick_stop m.tick))
end_told way m Unmet = general_at way m (end_stop (is_stop way.tick_stop m.tick))
end_told way m Paused = general_at way m Interrupted
