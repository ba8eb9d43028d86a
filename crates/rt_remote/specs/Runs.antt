-- On to a stop, and back.
use Rattle.std.specs.Prelude.{◌≡◌, ◌⊎◌, ℕ, Bool, true, false, List, [], Option, Some, None}
use Rattle.std.specs.List.{flat_map}
use Rattle.circular_buffer.specs.Buffer.{keep_last}
use Rattle.rt_image.specs.SystemFile.{TaskSet}
use Rattle.rt_history.specs.declared.record.Entry.{Entry}
use Rattle.rt_history.specs.Legal.{state_at}
use Rattle.rt_trace.specs.HistoryText.{line}
use Rattle.rt_walk.specs.Position.{stand_of}
use Rattle.rt_walk.specs.Walking.{IsWalk}
use Rattle.rt_debug.specs.reply.ReplyText.{happened_text}
use Rattle.rt_points.specs.declared.met.Watched.{Watched}
use Rattle.rt_packet.specs.declared.request.actions.Action.{Action}
use Rattle.rt_packet.specs.answer.Stops.{stop_text}
use Rattle.rt_packet.specs.declared.answer.stops.Stop.{Stop}
use Rattle.rt_packet.specs.declared.answer.stops.Stop.TheVariants.{Ended, Faulted, Happened, AtTick, Interrupted}
use Rattle.rt_packet.specs.declared.answer.replies.Refused.TheVariants.{Malformed, NoMemory}
use Rattle.rt_remote.specs.declared.stops.told.Told.{Told}
use Rattle.rt_remote.specs.declared.stops.onward.Onward.{Onward}
use Rattle.rt_remote.specs.declared.stops.backward.Backward.{Backward}
use Rattle.rt_remote.specs.declared.stops.one_back.OneBack.{OneBack}
use Rattle.rt_remote.specs.stops.Ahead.{told as told_of}
use Rattle.rt_remote.specs.stops.Looked.{teller}
use Rattle.rt_remote.specs.stops.Onward.{GoesOn, is_interrupted}
use Rattle.rt_remote.specs.stops.Backward.{GoesBack}
use Rattle.rt_remote.specs.stops.OneBack.{StepsBack}
use Rattle.rt_remote.specs.declared.selection.Direction.{Direction}
use Rattle.rt_remote.specs.declared.selection.Direction.TheVariants.{On, Back}
use Rattle.rt_remote.specs.declared.selection.Selection.{Selection}
use Rattle.rt_remote.specs.Remote.{RemoteState, machine, is_listed, passes}
use Rattle.rt_remote.specs.Chosen.{are_any, continued_back, stepped}
use Rattle.rt_remote.specs.Said.{Said, refuses}

-- a tick stop goes once it is told
abbrev pub stop_left : Stop → Option ℕ → Option ℕ
stop_left AtTick tick = None
stop_left stop tick = tick

-- a stop makes its task the told one and the shown one
abbrev pub with_told : Direction → Told → Selection → Selection
with_told direction told selection = record selection {
  shown = told.task;
  tick_stop = stop_left told.stop selection.tick_stop;
  last = told;
  direction = direction;
}

-- the line of the last tick, where it ended a task or made it fault, or the event
abbrev pub last_line : Stop → ℕ → List Entry → List ℕ
last_line Ended task entries = flat_map line (keep_last 1 entries)
last_line (Faulted fault) task entries = flat_map line (keep_last 1 entries)
last_line (Happened event job) task entries = happened_text (record { event = event; task = task; job = job })
last_line stop task entries = []

abbrev pub stop_said : RemoteState → Told → Said
stop_said state told = record {
  console = last_line told.stop told.task state.walk.shown.ring.items;
  answer = Some (stop_text state.selection.ids told.stop told.task);
}

-- what a stop leaves, and what is said of it
pub record Stops (old : RemoteState) (direction : Direction) (told : Told) (said : Said) (new : RemoteState) : Type 0 where
  pub names : new.names ≡ old.names
  pub walk : IsWalk old.walk new.walk
  pub points : new.points ≡ old.points
  pub selection : new.selection ≡ with_told direction told old.selection
  pub interrupt : new.has_interrupt ≡ old.has_interrupt
  pub said_of : said ≡ stop_said new told

-- An interrupt that is kept is told in place of what would move, and is then forgotten. Nothing has moved.
pub record Halts (old : RemoteState) (direction : Direction) (told : Told) (said : Said) (new : RemoteState) : Type 0 where
  pub stands : new ≡ record old { selection = with_told direction told old.selection; has_interrupt = false }
  pub said_of : said ≡ stop_said new told

abbrev pub UnlessKept : Bool → Type 0 → Type 0 → Type 0
UnlessKept true halts goes = halts
UnlessKept false halts goes = goes

-- it is told of the task of which an interrupted way is that begins here
abbrev pub halted : RemoteState → List (Option Action) → Told
halted state actions = told_of (teller actions state.selection.shown (machine state)) Interrupted

-- the way on of a session in which these tasks are resumed
pub record IsOnward (old : RemoteState) (actions : List (Option Action)) (way : Onward) : Type 0 where
  pub actions_are : way.actions.now ≡ actions
  pub points : way.points.now ≡ old.points
  pub events : way.events.now ≡ old.selection.events
  pub shown : way.shown ≡ old.selection.shown
  pub told : way.told ≡ old.selection.last.task
  pub passes : way.passes ≡ passes On old.selection
  pub tick_stop : way.tick_stop ≡ old.selection.tick_stop

-- On to the first stop of the tasks that are resumed; it is interrupted exactly where its pace paused.
pub record GoesTo (old : RemoteState) (actions : List (Option Action)) (paused : Bool) (said : Said) (new : RemoteState) : Type 0 where
  pub told : Told
  pub way : Onward
  pub is_way : IsOnward old actions way
  pub goes : (set : TaskSet) → machine old ≡ state_at set (machine old).tick → GoesOn way (stand_of old.walk.shown) set (machine old).tick told (machine new).tick
  pub interrupted : paused ≡ is_interrupted told.stop
  pub stops : Stops old On told said new

abbrev pub IfAny : Bool → RemoteState → Said → RemoteState → Type 0 → Type 0
IfAny true old said new run = run
IfAny false old said new run = (new ≡ old) × (said ≡ refuses Malformed)

-- where no task is resumed the request is refused
abbrev pub RunsOn : RemoteState → List (Option Action) → Bool → Said → RemoteState → Type 0
RunsOn old actions paused said new =
    IfAny (are_any actions) old said new (UnlessKept old.has_interrupt (Halts old On (halted old actions) said new) (GoesTo old actions paused said new))

-- there is no memory for the way back, and nothing has changed
abbrev pub LacksMemory : RemoteState → Said → RemoteState → Type 0
LacksMemory old said new = (new ≡ old) × (said ≡ refuses NoMemory)

-- the way back of a session in which these tasks are looked at
pub record IsBackward (old : RemoteState) (actions : List (Option Action)) (way : Backward) : Type 0 where
  pub actions_are : way.actions.now ≡ actions
  pub points : way.points.now ≡ old.points
  pub events : way.events.now ≡ old.selection.events
  pub shown : way.shown ≡ old.selection.shown
  pub passes : way.passes ≡ passes Back old.selection
  pub tick_stop : way.tick_stop ≡ old.selection.tick_stop

-- back to the last stop of the tasks that are looked at; it is interrupted only where its pace paused
pub record GoesBackTo (old : RemoteState) (actions : List (Option Action)) (paused : Bool) (said : Said) (new : RemoteState) : Type 0 where
  pub told : Told
  pub way : Backward
  pub is_way : IsBackward old actions way
  pub goes : (set : TaskSet) → old.walk.first.machine ≡ state_at set old.walk.first.machine.tick
      → GoesBack way (stand_of old.walk.first) set old.walk.first.machine.tick (machine old).tick told (machine new).tick
  pub interrupted : is_interrupted told.stop ≡ true → paused ≡ true
  pub stops : Stops old Back told said new

abbrev pub BacksBy : RemoteState → List (Option Action) → Bool → Said → RemoteState → Type 0
BacksBy old actions paused said new =
    IfAny (are_any actions) old said new
    (UnlessKept old.has_interrupt (Halts old Back (halted old actions) said new) (GoesBackTo old actions paused said new ⊎ LacksMemory old said new))

abbrev pub RunsBack : RemoteState → Bool → Said → RemoteState → Type 0
RunsBack old paused said new = BacksBy old (continued_back old) paused said new

-- one instruction back, of the task that is stepped
pub record IsOneBack (old : RemoteState) (way : OneBack) : Type 0 where
  pub task : way.task ≡ stepped old
  pub points : way.points.now ≡ old.points
  pub passes : way.passes ≡ passes Back old.selection

pub record GoesOneBack (old : RemoteState) (said : Said) (new : RemoteState) : Type 0 where
  pub told : Told
  pub way : OneBack
  pub is_way : IsOneBack old way
  pub goes : (set : TaskSet) → old.walk.first.machine ≡ state_at set old.walk.first.machine.tick
      → (last : Option (ℕ × Option Watched)) × StepsBack way set old.walk.first.machine.tick (machine old).tick last told (machine new).tick
  pub stops : Stops old Back told said new

abbrev pub StepsOneBack : RemoteState → Said → RemoteState → Type 0
StepsOneBack old said new =
    IfAny (is_listed old (stepped old)) old said new
    (UnlessKept old.has_interrupt (Halts old Back (told_of (stepped old) Interrupted) said new) (GoesOneBack old said new ⊎ LacksMemory old said new))
