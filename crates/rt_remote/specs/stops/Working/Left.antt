-- How a way back ends.
use Rattle.std.specs.Prelude.{ℕ, ◌&&◌, nat_lt, if◌then◌else◌, Option, Some, None}
use Rattle.rt_history.specs.MachineState.{MachineState}
use Rattle.rt_walk.specs.declared.back.Last.{Last}
use Rattle.rt_walk.specs.declared.back.Last.TheVariants.{Met, Unmet, Paused}
use Rattle.rt_packet.specs.declared.answer.stops.Stop.{Stop}
use Rattle.rt_packet.specs.declared.answer.stops.Stop.TheVariants.{AtTick, Begin, Interrupted}
use Rattle.rt_remote.specs.declared.stops.told.Told.{Told}
use Rattle.rt_remote.specs.declared.stops.backward.Backward.{Backward}
use Rattle.rt_remote.specs.stops.Looked.{teller}
use Rattle.rt_remote.specs.stops.Ahead.{told}
use Rattle.rt_remote.specs.stops.Onward.{is_stop}
use Rattle.rt_remote.specs.stops.Working.Ended.{is_own}

-- the lowest tick that it may lead to, but for the walk's first
abbrev pub low_tick : Option ℕ → ℕ → ℕ
low_tick None now = 0
low_tick (Some stop) now = if nat_lt stop now then stop else 0

-- where a look back ends, of which this is the lowest tick
abbrev pub last_tick : ℕ → Last Told → ℕ
last_tick low (Met m found) = m
last_tick low Unmet = low
last_tick low (Paused m) = m

-- why it stands still at tick m, where nothing is met, of a way that began at `now`
abbrev pub low_stop : Option ℕ → ℕ → ℕ → Stop
low_stop tick_stop now m = if nat_lt m now && is_stop tick_stop m then AtTick else Begin

-- what is told where it has led to
abbrev pub left_told : Backward → ℕ → MachineState → Last Told → Told
left_told way now m (Met t found) = if is_own found.stop then found else told (teller way.actions.now way.shown m) (low_stop way.tick_stop now m.tick)
left_told way now m Unmet = told (teller way.actions.now way.shown m) (low_stop way.tick_stop now m.tick)
left_told way now m (Paused t) = told (teller way.actions.now way.shown m) Interrupted
