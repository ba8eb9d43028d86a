-- What is met at a tick, by what the tick before it did and by the attempt that comes.
use Rattle.std.specs.Prelude.{◌≡◌, ℕ, ◌-◌, Option, Some, None}
use Rattle.rt_image.specs.SystemFile.{TaskSet}
use Rattle.rt_history.specs.declared.record.Record.{Record}
use Rattle.rt_history.specs.declared.record.Record.TheVariants as records
use Rattle.rt_history.specs.declared.record.Entry.{Entry}
use Rattle.rt_history.specs.declared.record.Entry.TheVariants.{Busy, Idle}
use Rattle.rt_history.specs.MachineState.{MachineState}
use Rattle.rt_history.specs.Legal.{record_at, state_at}
use Rattle.rt_core.specs.declared.view.Next.{Next}
use Rattle.rt_core.specs.declared.view.Next.TheVariants as nexts
use Rattle.rt_core.specs.Next.{next_of}
use Rattle.rt_walk.specs.Jobs.{Stand, stand_at}

-- what is met where a machine stands: nothing where no task is named
abbrev pub ahead_at : {A : Type 0} → (ℕ → ℕ → MachineState → Option A) → MachineState → Next → Option A
ahead_at ahead m nexts.Idle = None
ahead_at ahead m (nexts.Run task pc) = ahead task pc m

abbrev pub ahead_of : {A : Type 0} → (ℕ → ℕ → MachineState → Option A) → MachineState → Option A
ahead_of ahead m = ahead_at ahead m (next_of m)

-- what is met behind a tick, by the machine before it, its record and the machine after: of an idle one only where a task goes on then
abbrev pub behind_of : {A : Type 0} → (MachineState → Record → Stand → Option A) → MachineState → Record → Stand → Option A
behind_of behind before (records.Busy attempt) after = behind before (records.Busy attempt) after
behind_of behind before records.Idle after = ahead_of (λ task pc m. behind before records.Idle after) after.machine

-- behind a busy tick this is met, and so it is at the end of a stretch of idle ones, whichever machine is before its last
abbrev pub Meets : {A : Type 0} → (MachineState → Record → Stand → Option A) → MachineState → Entry → Stand → Option A → Type 0
Meets behind before (Busy t attempt) after found = behind before (records.Busy attempt) after ≡ found
Meets behind before (Idle t n) after found = (m : MachineState) → behind_of behind m records.Idle after ≡ found

-- what is met behind the tick before u of the legal history, with the jobs since `begin`
abbrev pub behind_at : {A : Type 0} → (MachineState → Record → Stand → Option A) → Stand → TaskSet → ℕ → Option A
behind_at behind begin set u = behind_of behind (state_at set (u - 1)) (record_at (state_at set (u - 1))) (stand_at begin set u)

-- the first of both
abbrev pub first_of : {A : Type 0} → Option A → Option A → Option A
first_of None after = after
first_of (Some a) after = Some a

-- what is met after u ticks of the legal history, at least one: in what the last of them did, else of what comes
abbrev pub met_at : {A : Type 0} → (MachineState → Record → Stand → Option A) → (ℕ → ℕ → MachineState → Option A) → Stand → TaskSet → ℕ → Option A
met_at behind ahead begin set u = first_of (behind_at behind begin set u) (ahead_of ahead (state_at set u))
