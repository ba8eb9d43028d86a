-- What is met at a tick.
use Rattle.std.specs.Prelude.{ℕ, List, Bool, Option, None}
use Rattle.std.specs.Option.{option_map}
use Rattle.rt_image.specs.SystemFile.{TaskSet}
use Rattle.rt_history.specs.declared.record.Record.{Record}
use Rattle.rt_history.specs.MachineState.{MachineState}
use Rattle.rt_history.specs.Legal.{state_at}
use Rattle.rt_core.specs.declared.view.Next.{Next}
use Rattle.rt_core.specs.declared.view.Next.TheVariants.{Idle, Run}
use Rattle.rt_core.specs.Next.{next_of}
use Rattle.rt_points.specs.declared.events.Events.{Events}
use Rattle.rt_points.specs.Events.{asks}
use Rattle.rt_walk.specs.Jobs.{Stand}
use Rattle.rt_walk.specs.Events.{happens}
use Rattle.rt_walk.specs.Met.{met_at}
use Rattle.rt_debug.specs.declared.reply.reply.Stopped.{Stopped}
use Rattle.rt_debug.specs.declared.reply.reply.Stopped.TheVariants.{At, Happened}
use Rattle.rt_debug.specs.StopSlots.{hit_from}
use Rattle.rt_debug.specs.Stopping.{Stopping}

-- the least number of a stop that the coming tick meets
abbrev pub met_by : {B : Type 0} → (B → ℕ → ℕ → Bool) → List (Option B) → Next → Option ℕ
met_by meets slots Idle = None
met_by meets slots (Run task pc) = hit_from (λ stop. meets stop task pc) 1 slots

-- the same after u ticks of the legal history
abbrev pub stop_at : {B : Type 0} → (B → ℕ → ℕ → Bool) → List (Option B) → TaskSet → ℕ → Option ℕ
stop_at meets slots set u = met_by meets slots (next_of (state_at set u))

-- the event that happens behind a tick, and the stop that a task meets at pc
abbrev pub event_behind : Events → MachineState → Record → Stand → Option Stopped
event_behind events before r after = option_map Happened (happens (asks events) before r after)

abbrev pub stop_ahead : {B : Type 0} → (B → ℕ → ℕ → Bool) → List (Option B) → ℕ → ℕ → MachineState → Option Stopped
stop_ahead meets slots task pc m = option_map At (hit_from (λ stop. meets stop task pc) 1 slots)

-- what it stands still at after u ticks, with the jobs since `begin`: the event that happened behind the last of them, else the stop that the coming one meets
abbrev pub stands_at : {B : Type 0} → (B → ℕ → ℕ → Bool) → Stopping B → Stand → TaskSet → ℕ → Option Stopped
stands_at meets stops begin set u = met_at (event_behind stops.events) (stop_ahead meets stops.slots) begin set u
