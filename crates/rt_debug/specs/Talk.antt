-- A whole session: commands, and stops that are added between them, one after the other.
use Rattle.std.specs.Prelude.{◌≡◌, ℕ, ◌≤◌, Bool, List, [], ◌∷◌, Result}
use Rattle.circular_buffer.specs.Buffer.{buffer, keep_last}
use Rattle.rt_image.specs.SystemFile.{TaskSet}
use Rattle.rt_history.specs.MachineState.{MachineState}
use Rattle.rt_history.specs.Legal.{state_at}
use Rattle.rt_command.specs.declared.command.Command.{Command}
use Rattle.rt_command.specs.declared.refusal.Refusal.{Refusal}
use Rattle.rt_debug.specs.declared.reply.reply.Reply.{Reply}
use Rattle.rt_debug.specs.Stopping.{Stopping, AddsTo}
use Rattle.rt_walk.specs.Jobs.{first_jobs}
use Rattle.rt_walk.specs.Position.{ring_limit, entries_between, PositionState, WalkState}
use Rattle.rt_debug.specs.Session.{Executes}

-- one act: a command, or a stop that is to be added
pub data Act (B : Type 0) : Type 0 where
  Obey : Command → Act B
  Add : B → Act B

-- what it does, whatever it answers
abbrev pub Acts : {B : Type 0} → (B → ℕ → ℕ → Bool) → TaskSet → WalkState → Stopping B → Act B → WalkState → Stopping B → Type 0
Acts meets set old stops (Obey command) new later = (result : Result Reply Refusal) × Executes meets set old stops command result new later
Acts meets set old stops (Add stop) new later = (added : Result ℕ Refusal) × AddsTo stop stops added later × (new ≡ old)

-- one act after the other
abbrev pub Talks : {B : Type 0} → (B → ℕ → ℕ → Bool) → TaskSet → WalkState → Stopping B → List (Act B) → WalkState → Stopping B → Type 0
Talks meets set old stops [] new later = (new ≡ old) × (later ≡ stops)
Talks {B} meets set old stops (act ∷ acts) new later = (mid : WalkState) × (between : Stopping B) × Acts meets set old stops act mid between × Talks meets set mid between acts new later

-- a session of a machine, at its begin
abbrev pub fresh : MachineState → WalkState
fresh machine = let here : PositionState = record { machine = machine; ring = buffer [] ring_limit; jobs = first_jobs machine } in record { first = here; shown = here }

-- what is shown is the legal history's own machine of the shown tick, and the ring has its last entries since the session began
pub record IsFaithful (set : TaskSet) (machine : MachineState) (shown : PositionState) : Type 0 where
  pub later : machine.tick ≤ shown.machine.tick
  pub stands : shown.machine ≡ state_at set shown.machine.tick
  pub kept : shown.ring.items ≡ keep_last ring_limit (entries_between set machine.tick shown.machine.tick)
