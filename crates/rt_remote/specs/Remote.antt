-- The state of a session.
use Rattle.std.specs.Prelude.{ℕ, ◌&&◌, not, nat_lt, Bool, true, false, List, [], replicate, length, slice_get, None}
use Rattle.std.specs.Option.{unwrap_or}
use Rattle.rt_history.specs.MachineState.{MachineState}
use Rattle.rt_core.specs.declared.view.Next.{Next}
use Rattle.rt_core.specs.declared.view.Next.TheVariants.{Idle, Run}
use Rattle.rt_core.specs.Next.{next_of}
use Rattle.rt_walk.specs.Position.{WalkState}
use Rattle.rt_points.specs.Events.{no_events}
use Rattle.rt_points.specs.declared.point.Point.{Point}
use Rattle.rt_packet.specs.declared.request.ids.Tasks.TheVariants.{All}
use Rattle.rt_packet.specs.declared.answer.ids.Ids.TheVariants.{Threads}
use Rattle.rt_packet.specs.declared.answer.stops.Stop.{Stop}
use Rattle.rt_packet.specs.declared.answer.stops.Stop.TheVariants.{Plain, Watch}
use Rattle.rt_debug.specs.Talk.{fresh}
use Rattle.rt_remote.specs.declared.selection.Direction.{Direction}
use Rattle.rt_remote.specs.declared.selection.Direction.TheVariants.{On, Back}
use Rattle.rt_remote.specs.declared.selection.Selection.{Selection}

-- the names of the tasks, the way, the points, what is selected, and whether an interrupt is kept
pub record RemoteState : Type 0 where
  pub names : List (List ℕ)
  pub walk : WalkState
  pub points : List Point
  pub selection : Selection
  pub has_interrupt : Bool

-- the machine that is shown
abbrev pub machine : RemoteState → MachineState
machine state = state.walk.shown.machine

-- a task is listed that is there and wasn't let go
abbrev pub is_listed : RemoteState → ℕ → Bool
is_listed state i = nat_lt i (length (machine state).tasks) && not (unwrap_or (slice_get state.selection.gone i) true)

-- the task that is named first, or task 0
abbrev pub first_told : Next → ℕ
first_told Idle = 0
first_told (Run task pc) = task

-- at the begin of a session in which this task is named first
abbrev pub opening_selection : ℕ → Selection
opening_selection task = record {
  ids = Threads;
  shown = task;
  resumed = All;
  tick_stop = None;
  events = no_events;
  gone = replicate 64 false;
  last = record { stop = Plain; task = task };
  direction = On;
}

-- of a machine whose tasks have these names
abbrev pub opening : List (List ℕ) → MachineState → RemoteState
opening names m = record { names = names; walk = fresh m; points = []; selection = opening_selection (first_told (next_of m)); has_interrupt = false }

-- an interrupt that arrives while the session stands is kept, several as one, until it is told or forgotten
abbrev pub with_interrupt : RemoteState → RemoteState
with_interrupt state = record state { has_interrupt = true }

abbrev pub without_interrupt : RemoteState → RemoteState
without_interrupt state = record state { has_interrupt = false }

-- whether the last stop was a watchpoint's, on this way
abbrev pub is_watch_stop : Stop → Bool
is_watch_stop (Watch watched) = true
is_watch_stop stop = false

abbrev pub is_same_way : Direction → Direction → Bool
is_same_way On On = true
is_same_way Back Back = true
is_same_way _ _ = false

abbrev pub passes : Direction → Selection → Bool
passes direction selection = is_watch_stop selection.last.stop && is_same_way selection.direction direction
