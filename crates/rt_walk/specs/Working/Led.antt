-- How a search goes on by one entry, and by many.
use Rattle.std.specs.Prelude.{◌≡◌, ℕ, ◌+◌, ◌<◌, ◌≤◌, Bool, true, List, ◌++◌, length, Option, Some, None}
use Rattle.std.specs.Option.{option_map, is_some}
use Rattle.circular_buffer.specs.Buffer.{keep_last}
use Rattle.rt_image.specs.SystemFile.{TaskSet}
use Rattle.rt_history.specs.declared.record.Record.{Record}
use Rattle.rt_history.specs.declared.record.Record.TheVariants as records
use Rattle.rt_history.specs.declared.record.Entry.{Entry}
use Rattle.rt_history.specs.declared.record.Entry.TheVariants.{Busy, Idle}
use Rattle.rt_history.specs.MachineState.{MachineState}
use Rattle.rt_history.specs.Legal.{state_at}
use Rattle.rt_history.specs.Entries.{start_of, ticks_of, records_of, entries_from}
use Rattle.rt_core.specs.Advance.{Goes, Follows}
use Rattle.rt_walk.specs.declared.halt.Sought.{Sought}
use Rattle.rt_walk.specs.declared.halt.Sought.TheVariants.{Met, Unmet, Paused}
use Rattle.rt_walk.specs.declared.position.Gone.{Gone}
use Rattle.rt_walk.specs.declared.position.Gone.TheVariants.{ByMeeting, AtEnd, ByTick, ByIdle}
use Rattle.rt_walk.specs.Jobs.{Stand}
use Rattle.rt_walk.specs.Position.{PositionState, IsAt, stand_of}
use Rattle.rt_walk.specs.Working.Opened.{opened_in}
use Rattle.rt_walk.specs.Met.{ahead_of, behind_of, Meets, met_at}
use Rattle.rt_walk.specs.FirstMet.{SeeksOrPauses, Moves}

-- an entry of at most so many ticks leads on, and this is met in it
pub record ByEntry {A : Type 0} (behind : MachineState → Record → Stand → Option A) (most : ℕ) (old new : PositionState) (found : Option A) : Type 0 where
  pub entry : Entry
  pub goes : Goes most old.machine entry new.machine
  pub legal : (set : TaskSet) (t : ℕ) → old.machine ≡ state_at set t → Follows set t entry new.machine
  pub jobs : new.jobs ≡ opened_in old.jobs entry
  pub met : Meets behind old.machine entry (stand_of new) found

-- the search goes on, or it ends: by what is met in the entry, or since there is none
abbrev pub GoesOn : {A : Type 0} → (MachineState → Record → Stand → Option A) → ℕ → PositionState → PositionState → Option (Sought A) → Type 0
GoesOn behind most old new None = ByEntry behind most old new None
GoesOn behind most old new (Some (Met a)) = ByEntry behind most old new (Some a)
GoesOn behind most old new (Some Unmet) = (new ≡ old) × (most ≡ 0)
GoesOn behind most old new (Some Paused) = ⊥

-- How a search ends that went on so, if it does, where this is met; and by how many ticks it went on.
abbrev pub sought_by : {A : Type 0} → Gone → Option A → Option (Sought A)
sought_by ByMeeting found = option_map Met found
sought_by AtEnd found = Some Unmet
sought_by ByTick found = None
sought_by (ByIdle n) found = None

abbrev pub Passes : {A : Type 0} → ℕ → ℕ → Gone → Option A → Type 0
Passes old new ByMeeting found = is_some found ≡ true
Passes old new AtEnd found = Unit {0}
Passes old new ByTick found = (found ≡ None) × (new ≡ old + 1)
Passes old new (ByIdle n) found = (found ≡ None) × (1 ≤ n) × (new ≡ old + n)

-- how it goes on by a busy tick in which this is met
abbrev pub gone_by : {A : Type 0} → Option A → Gone
gone_by None = ByTick
gone_by (Some a) = ByMeeting

-- and by so many idle ticks
abbrev pub idle_by : {A : Type 0} → ℕ → Option A → Gone
idle_by n None = ByIdle n
idle_by n (Some a) = ByMeeting

-- an entry leads on so, and this is met in it
abbrev pub Looks : {A : Type 0} → (MachineState → Record → Stand → Option A) → MachineState → Entry → Stand → Gone → Option A → Type 0
Looks behind before (Busy t attempt) after gone found = (behind before (records.Busy attempt) after ≡ found) × (gone ≡ gone_by found)
Looks behind before (Idle t n) after gone found = ((m : MachineState) → behind_of behind m records.Idle after ≡ found) × (gone ≡ idle_by n found)

-- an entry is kept, the jobs go on by it, and the machine stays
pub record Keeps (entry : Entry) (old new : PositionState) : Type 0 where
  pub machine : new.machine ≡ old.machine
  pub jobs : new.jobs ≡ opened_in old.jobs entry
  pub capacity : new.ring.capacity ≡ old.ring.capacity
  pub follows : (u : ℕ) (records : List Record) → old.ring.items ≡ keep_last old.ring.capacity (entries_from u records)
      → start_of entry ≡ u + length records → 1 ≤ ticks_of entry → new.ring.items ≡ keep_last old.ring.capacity (entries_from u (records ++ records_of entry))

-- A search that began at tick t stands at a machine: nothing is met between, and here what comes is, if anything.
pub record Searches {A : Type 0} (behind : MachineState → Record → Stand → Option A) (ahead : ℕ → ℕ → MachineState → Option A) (begin : Stand) (set : TaskSet) (t : ℕ) (s : Stand) : Type 0 where
  pub later : t < s.machine.tick
  pub stands : IsAt begin set s
  pub none : (u : ℕ) → t < u → u < s.machine.tick → met_at behind ahead begin set u ≡ None
  pub here : met_at behind ahead begin set s.machine.tick ≡ ahead_of ahead s.machine

-- a search from tick t, at most n ticks on, has come to a machine, where it goes on or has ended
abbrev pub Comes : {A : Type 0} → (MachineState → Record → Stand → Option A) → (ℕ → ℕ → MachineState → Option A) → Stand → TaskSet → Bool → ℕ → ℕ → Stand → Option (Sought A) → Type 0
Comes behind ahead begin set has_paused t n s None = Searches behind ahead begin set t s
Comes behind ahead begin set has_paused t n s (Some sought) = SeeksOrPauses has_paused (met_at behind ahead begin set) t n sought s.machine.tick

-- how far it has come, wherever it began
abbrev pub MovesBy : {A : Type 0} → ℕ → ℕ → ℕ → Option (Sought A) → Type 0
MovesBy t n m None = t < m
MovesBy t n m (Some sought) = Moves t n sought m

-- how a search ends at its last tick, where this is met of what comes
abbrev pub end_of : {A : Type 0} → Option A → Sought A
end_of None = Unmet
end_of (Some a) = Met a
