-- One instruction of a task back.
use Rattle.std.specs.Prelude.{◌≡◌, ℕ, ◌<◌, ◌≤◌, ◌==◌, if◌then◌else◌, Bool, true, false, Option, Some, None}
use Rattle.rt_image.specs.SystemFile.{TaskSet}
use Rattle.rt_history.specs.MachineState.{MachineState}
use Rattle.rt_history.specs.Legal.{state_at}
use Rattle.rt_walk.specs.Met.{ahead_of}
use Rattle.rt_points.specs.declared.met.Watched.{Watched}
use Rattle.rt_packet.specs.declared.answer.stops.Stop.TheVariants.{Plain, Begin, Watch}
use Rattle.rt_remote.specs.declared.stops.told.Told.{Told}
use Rattle.rt_remote.specs.declared.stops.one_back.OneBack.{OneBack}
use Rattle.rt_remote.specs.stops.Ahead.{told, watched_at}

-- the watchpoint that the task meets where it is the named one, or none
abbrev pub own_tick : OneBack → ℕ → ℕ → MachineState → Option (Option Watched)
own_tick way task pc m = if task == way.task then Some (watched_at way.points.now task pc m) else None

-- t is the last tick of the task from `first` on and before `now`, and before it that watchpoint is met
pub record IsLastTick (way : OneBack) (set : TaskSet) (first now t : ℕ) (watched : Option Watched) : Type 0 where
  pub from : first ≤ t
  pub before : t < now
  pub here : ahead_of (own_tick way) (state_at set t) ≡ Some watched
  pub none_after : (u : ℕ) → t < u → u < now → ahead_of (own_tick way) (state_at set u) ≡ None

-- the watchpoint is told where it is, unless one was just told
abbrev pub tells_watched : Bool → OneBack → ℕ → ℕ → Watched → Told → ℕ → Type 0
tells_watched true way now t watched found m = (found ≡ told way.task Plain) × (m ≡ t)
tells_watched false way now t watched found m = (found ≡ told way.task (Watch watched)) × (m ≡ now)

-- what is told there, and where it stands then
abbrev pub tells_tick : OneBack → ℕ → ℕ → Option Watched → Told → ℕ → Type 0
tells_tick way now t (Some watched) found m = tells_watched way.passes way now t watched found m
tells_tick way now t None found m = (found ≡ told way.task Plain) × (m ≡ t)

-- the way back by one instruction: to its last tick, or nowhere where it has none
abbrev pub StepsBack : OneBack → TaskSet → ℕ → ℕ → Option (ℕ × Option Watched) → Told → ℕ → Type 0
StepsBack way set first now (Some last) found m = IsLastTick way set first now last.0 last.1 × tells_tick way now last.0 last.1 found m
StepsBack way set first now None found m =
    ((u : ℕ) → first ≤ u → u < now → ahead_of (own_tick way) (state_at set u) ≡ None) × (found ≡ told way.task Begin) × (m ≡ now)
