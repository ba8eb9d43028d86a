-- What a session that goes on looks at each tick, before it asks its stops.
use Rattle.std.specs.Prelude.{◌≡◌, ℕ, Bool, true, false, List, Option, Some, None, if◌then◌else◌}
use Rattle.std.specs.Option.{option_map}
use Rattle.rt_history.specs.declared.record.Record.{Record}
use Rattle.rt_history.specs.MachineState.{MachineState}
use Rattle.rt_core.specs.declared.view.Next.{Next}
use Rattle.rt_core.specs.declared.view.Next.TheVariants.{Idle, Run}
use Rattle.rt_debug.specs.declared.watch.Watch.{Watch}
use Rattle.rt_debug.specs.declared.watch.Watch.TheVariants.{Nowhere, At, Marked, Anywhere}
use Rattle.rt_debug.specs.PlaceStop.{is_at}
use Rattle.rt_debug.specs.FirstStop.{met_by}
use Rattle.rt_points.specs.Marks.{is_marked}
use Rattle.rt_points.specs.declared.events.Events.{Events}
use Rattle.rt_points.specs.Events.{asks}
use Rattle.rt_walk.specs.declared.events.Happening.{Happening}
use Rattle.rt_walk.specs.declared.halt.Sought.{Sought}
use Rattle.rt_walk.specs.declared.halt.Sought.TheVariants.{Met}
use Rattle.rt_walk.specs.Jobs.{Stand}
use Rattle.rt_walk.specs.Events.{happens}
use Rattle.rt_debug.specs.declared.reply.reply.Stopped.{Stopped}
use Rattle.rt_debug.specs.declared.reply.reply.Stopped.TheVariants as stopped

-- whether a stop may be met by the coming tick, where these places are marked
abbrev pub sees : List ℕ → Watch → Next → Bool
sees words watch Idle = false
sees words Nowhere (Run task pc) = false
sees words (At place) (Run task pc) = is_at place task pc
sees words Marked (Run task pc) = is_marked words task pc
sees words Anywhere (Run task pc) = true

-- none of these stops is met by a tick that is not seen
abbrev pub Covers : {B : Type 0} → (B → ℕ → ℕ → Bool) → List (Option B) → List ℕ → Watch → Type 0
Covers meets slots words watch = (next : Next) → sees words watch next ≡ false → met_by meets slots next ≡ None

-- whether a place is seen, as what a walk halts at
abbrev pub seen_at : List ℕ → Watch → ℕ → ℕ → Option (Unit {0})
seen_at words watch task pc = if sees words watch (Run task pc) then Some tt else None

-- what a walk halts at where events are asked for: at one that happened, and wherever a stop may be met
abbrev pub asked_behind : Events → MachineState → Record → Stand → Option (Option Happening)
asked_behind events before r after = option_map Some (happens (asks events) before r after)

abbrev pub asked_ahead : List ℕ → Watch → ℕ → ℕ → MachineState → Option (Option Happening)
asked_ahead words watch task pc m = if sees words watch (Run task pc) then Some None else None

-- what is met there, where this stop is
abbrev pub stands_by : Option (Option Happening) → Option ℕ → Option Stopped
stands_by None hit = None
stands_by (Some None) hit = option_map stopped.At hit
stands_by (Some (Some happening)) hit = Some (stopped.Happened happening)

-- and where a walk has come to stand still
abbrev pub standing : Sought (Option Happening) → Option ℕ → Option Stopped
standing (Met found) hit = stands_by (Some found) hit
standing _ hit = None
