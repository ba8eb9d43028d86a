-- The way on: the first tick at which something is told.
use Rattle.std.specs.Prelude.{◌≡◌, ℕ, ◌<◌, ◌≤◌, ◌==◌, ◌&&◌, ◌||◌, nat_lt, if◌then◌else◌, Bool, true, false, Option, Some, None}
use Rattle.std.specs.Option.{unwrap_or}
use Rattle.rt_words.specs.Limits.{tick_limit}
use Rattle.rt_image.specs.SystemFile.{TaskSet}
use Rattle.rt_history.specs.MachineState.{MachineState}
use Rattle.rt_history.specs.Legal.{state_at}
use Rattle.rt_walk.specs.Jobs.{Stand}
use Rattle.rt_walk.specs.Met.{behind_at, ahead_of, first_of}
use Rattle.rt_packet.specs.declared.answer.stops.Stop.{Stop}
use Rattle.rt_packet.specs.declared.answer.stops.Stop.TheVariants.{AtTick, End, Interrupted}
use Rattle.rt_remote.specs.declared.stops.told.Told.{Told}
use Rattle.rt_remote.specs.declared.stops.onward.Onward.{Onward}
use Rattle.rt_remote.specs.stops.Looked.{is_looked, is_stepped, are_over, steps_are_over, standing, teller, step_teller}
use Rattle.rt_remote.specs.stops.Ahead.{told, behind_on, break_met, watch_met}

-- whether the tick stop is this tick
abbrev pub is_stop : Option ℕ → ℕ → Bool
is_stop None m = false
is_stop (Some tick) m = tick == m

-- What a looked-at task meets before its attempt. Where the way begins, the breakpoint of a stepped task and that of the told one
-- are passed by, and a watchpoint where one was just told.
abbrev pub break_on : Onward → Bool → ℕ → ℕ → Option Told
break_on way is_start task pc =
    if is_start && (is_stepped way.actions.now task || (task == way.told)) then None else break_met way.points.now task pc

abbrev pub watch_on : Onward → Bool → ℕ → ℕ → MachineState → Option Told
watch_on way is_start task pc m = if is_start && way.passes then None else watch_met way.points.now task pc m

abbrev pub met_on : Onward → Bool → ℕ → ℕ → MachineState → Option Told
met_on way is_start task pc m = if is_looked way.actions.now task then first_of (break_on way is_start task pc) (watch_on way is_start task pc m) else None

-- a stop that is told of no task of its own
abbrev pub general_on : Onward → TaskSet → ℕ → Stop → Told
general_on way set m stop = told (teller way.actions.now way.shown (state_at set m)) stop

-- what is told at tick m of a way on from tick `start`, with the jobs since `begin`
abbrev pub stop_on : Onward → Stand → TaskSet → ℕ → ℕ → Option Told
stop_on way begin set start m =
    first_of (if nat_lt start m then behind_at (behind_on way.actions.now way.events.now) begin set m else None)
    (first_of (if nat_lt start m && is_stop way.tick_stop m then Some (general_on way set m AtTick) else None)
    (first_of (ahead_of (met_on way (m == start)) (state_at set m))
    (if m == tick_limit then Some (general_on way set m End) else None)))

abbrev pub is_interrupted : Stop → Bool
is_interrupted Interrupted = true
is_interrupted stop = false

-- it comes to the first tick at which something is told; or it is interrupted at one up to which nothing is
pub record IsOn (way : Onward) (begin : Stand) (set : TaskSet) (start : ℕ) (found : Told) (m : ℕ) : Type 0 where
  pub from : start ≤ m
  pub here : found ≡ unwrap_or (stop_on way begin set start m) (general_on way set m Interrupted)
  pub none_before : (u : ℕ) → start ≤ u → u < m → stop_on way begin set start u ≡ None
  pub moved : is_interrupted found.stop ≡ true → start < m

-- Where every stepped task is over, it is told how one of them stands; where every looked-at one is, that nothing more can come.
unfoldable pub over_told : Onward → MachineState → Option Told
over_told way m =
    if steps_are_over way.actions.now m
    then Some (told (step_teller way.actions.now way.shown) (standing m (step_teller way.actions.now way.shown)))
    else (if are_over way.actions.now m then Some (told (teller way.actions.now way.shown m) End) else None)

-- there it stays
pub record GoesOn (way : Onward) (begin : Stand) (set : TaskSet) (start : ℕ) (found : Told) (m : ℕ) : Type 0 where
  pub over : (stands : Told) → over_told way (state_at set start) ≡ Some stands → (found ≡ stands) × (m ≡ start)
  pub on : over_told way (state_at set start) ≡ None → IsOn way begin set start found m
