-- The way back: the last tick at which something is told.
use Rattle.std.specs.Prelude.{◌≡◌, ℕ, ◌<◌, ◌≤◌, ◌==◌, ◌&&◌, nat_lt, if◌then◌else◌, true, Option, Some, None}
use Rattle.std.specs.Option.{unwrap_or}
use Rattle.rt_image.specs.SystemFile.{TaskSet}
use Rattle.rt_history.specs.MachineState.{MachineState}
use Rattle.rt_history.specs.Legal.{state_at}
use Rattle.rt_history.specs.declared.record.Record.{Record}
use Rattle.rt_walk.specs.Jobs.{Stand}
use Rattle.rt_walk.specs.Met.{ahead_of, first_of}
use Rattle.rt_walk.specs.LastMet.{left_at}
use Rattle.rt_packet.specs.declared.answer.stops.Stop.{Stop}
use Rattle.rt_packet.specs.declared.answer.stops.Stop.TheVariants.{AtTick, Begin, Interrupted}
use Rattle.rt_remote.specs.declared.stops.told.Told.{Told}
use Rattle.rt_remote.specs.declared.stops.backward.Backward.{Backward}
use Rattle.rt_remote.specs.stops.Looked.{is_looked, teller}
use Rattle.rt_remote.specs.stops.Ahead.{told, break_met, watch_met, event_on}
use Rattle.rt_remote.specs.stops.Onward.{is_stop, is_interrupted}

-- what a looked-at task meets before an attempt, and behind it
abbrev pub here_back : Backward → ℕ → ℕ → MachineState → Option Told
here_back way task pc m = if is_looked way.actions.now task then break_met way.points.now task pc else None

abbrev pub left_back : Backward → ℕ → ℕ → MachineState → Option Told
left_back way task pc m = if is_looked way.actions.now task then watch_met way.points.now task pc m else None

-- the event that happens behind a tick
abbrev pub behind_back : Backward → MachineState → Record → Stand → Option Told
behind_back way before r after = event_on way.actions.now way.events.now before r after

abbrev pub general_back : Backward → TaskSet → ℕ → Stop → Told
general_back way set m stop = told (teller way.actions.now way.shown (state_at set m)) stop

-- what is told at tick m of a way back from tick `now` that may lead to `first`, with the jobs since `begin`
abbrev pub stop_back : Backward → Stand → TaskSet → ℕ → ℕ → ℕ → Option Told
stop_back way begin set first now m =
    first_of (if nat_lt m now then ahead_of (here_back way) (state_at set m) else None)
    (first_of (if nat_lt first m then left_at (left_back way) (behind_back way) way.passes begin set now m else None)
    (first_of (if nat_lt m now && is_stop way.tick_stop m then Some (general_back way set m AtTick) else None)
    (if m == first then Some (general_back way set m Begin) else None)))

-- it comes to the last tick at which something is told; or it is interrupted at one down to which nothing is
pub record GoesBack (way : Backward) (begin : Stand) (set : TaskSet) (first now : ℕ) (found : Told) (m : ℕ) : Type 0 where
  pub from : first ≤ m
  pub within : m ≤ now
  pub here : found ≡ unwrap_or (stop_back way begin set first now m) (general_back way set m Interrupted)
  pub none_after : (u : ℕ) → m < u → u ≤ now → stop_back way begin set first now u ≡ None
  pub moved : is_interrupted found.stop ≡ true → m < now
