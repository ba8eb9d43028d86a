-- What a session does at each command.
use Rattle.std.specs.Prelude.{◌≡◌, ℕ, Bool, Option, Result, Ok, Err}
use Rattle.std.specs.Option.{unwrap_or}
use Rattle.rt_words.specs.Chain.{mapped}
use Rattle.rt_image.specs.SystemFile.{TaskSet}
use Rattle.rt_history.specs.Legal.{state_at}
use Rattle.rt_names.specs.TaskNames.{task_names}
use Rattle.rt_command.specs.declared.command.Command.{Command}
use Rattle.rt_command.specs.declared.command.Command.TheVariants.{Step, Back, Continue, Shown, Break, Delete, Events, Quit}
use Rattle.rt_command.specs.declared.refusal.Refusal.{Refusal}
use Rattle.rt_command.specs.declared.refusal.Refusal.TheVariants.{NoMemory}
use Rattle.rt_debug.specs.declared.reply.reply.Stopped.{Stopped}
use Rattle.rt_debug.specs.declared.reply.reply.Stopped.TheVariants.{Unasked, NoStop}
use Rattle.rt_debug.specs.declared.reply.reply.Reply.{Reply}
use Rattle.rt_debug.specs.declared.reply.reply.Reply.TheVariants as replies
use Rattle.rt_points.specs.declared.events.Event.{Event}
use Rattle.rt_points.specs.Events.{with_event}
use Rattle.rt_walk.specs.FirstMet.{Seeks}
use Rattle.rt_walk.specs.Position.{WalkState, stand_of}
use Rattle.rt_walk.specs.Walking.{IsWalk, Steps, Backs}
use Rattle.rt_debug.specs.StopSlots.{deletes, slots_after}
use Rattle.rt_debug.specs.Stopping.{Stopping}
use Rattle.rt_debug.specs.FirstStop.{stands_at}
use Rattle.rt_debug.specs.Looking.{tick_reply, looked, place_pc}
use Rattle.rt_debug.specs.Whose.{meant}

-- on to the first tick at which something is met, at most n ticks: which it is, and what is met
pub record Continues {A : Type 0} (met : TaskSet → ℕ → Option A) (old : WalkState) (n : ℕ) (found : Option A) (new : WalkState) : Type 0 where
  pub walk : IsWalk old new
  pub seeks : (set : TaskSet) → old.shown.machine ≡ state_at set old.shown.machine.tick → Seeks (met set) old.shown.machine.tick n found new.shown.machine.tick

-- the way back is answered with the tick line, or refused
abbrev pub tells_back : WalkState → Result Reply Refusal → Type 0
tells_back new (Ok reply) = reply ≡ tick_reply Unasked new.shown.machine
tells_back new (Err refusal) = Unit {0}

-- an event is asked for, of the task that is meant, or no more
abbrev pub AsksEvent : {B : Type 0} → Result (Option ℕ) Refusal → Stopping B → Event → Bool → Result Reply Refusal → Stopping B → Type 0
AsksEvent (Ok task) stops event is_asked result later =
    (later ≡ record stops { events = with_event event task is_asked stops.events }) × (result ≡ Ok (replies.Events event task is_asked))
AsksEvent (Err refusal) stops event is_asked result later = (later ≡ stops) × (result ≡ Err refusal)

-- One command: what it answers, what is shown after it, and which stops there are then. The stops are seen by what they meet.
abbrev pub Executes : {B : Type 0} → (B → ℕ → ℕ → Bool) → TaskSet → WalkState → Stopping B → Command → Result Reply Refusal → WalkState → Stopping B → Type 0
Executes meets set old stops (Step n) result new later = Steps old n new × (later ≡ stops) × (result ≡ Ok (tick_reply Unasked new.shown.machine))
Executes meets set old stops (Back n) result new later = Backs old n result new × (later ≡ stops) × tells_back new result
Executes meets set old stops (Continue n) result new later =
    (found : Option Stopped) × Continues (stands_at meets stops (stand_of old.shown)) old n found new × (later ≡ stops) × (result ≡ Ok (tick_reply (unwrap_or found NoStop) new.shown.machine))
Executes meets set old stops Shown result new later = (new ≡ old) × (later ≡ stops) × (result ≡ Ok (tick_reply Unasked old.shown.machine))
Executes meets set old stops (Delete k) result new later = (new ≡ old) × (later ≡ record stops { slots = slots_after stops.slots k }) × (result ≡ mapped (λ _. replies.Deleted k) (deletes stops.slots k))
Executes meets set old stops (Events event whose is_asked) result new later = (new ≡ old) × AsksEvent (meant (task_names set) old.shown.machine whose) stops event is_asked result later
Executes meets set old stops Quit result new later = (new ≡ old) × (later ≡ stops) × (result ≡ Ok replies.Quit)
Executes meets set old stops (Break i place) result new later =
    (new ≡ old) × (later ≡ stops) × (result ≡ mapped (replies.Break i) (place_pc set old.shown.machine i place))
Executes meets set old stops command result new later =
    (new ≡ old) × (later ≡ stops) × (result ≡ mapped replies.Text (looked set.tasks old.shown.machine old.shown.ring.items command))

-- this answer, or where it is lines that take memory, want of it
abbrev pub Answers : Result Reply Refusal → Result Reply Refusal → Type 0
Answers (Ok (replies.Text lines)) (Err NoMemory) = Unit {0}
Answers want got = got ≡ want
