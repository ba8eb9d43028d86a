-- How far a machine goes on by one entry.
use Rattle.std.specs.Prelude.{◌≡◌, ℕ, ◌+◌, ◌≤◌, ◌⊎◌, None, IsSome}
use Rattle.rt_history.specs.declared.record.Record.TheVariants as records
use Rattle.rt_history.specs.declared.record.Entry.{Entry}
use Rattle.rt_history.specs.declared.record.Entry.TheVariants.{Busy, Idle}
use Rattle.rt_image.specs.SystemFile.{TaskSet}
use Rattle.rt_history.specs.Named.{named}
use Rattle.rt_history.specs.MachineState.{MachineState}
use Rattle.rt_history.specs.Legal.{record_at, state_at}
use Rattle.rt_history.specs.Entries.{start_of, ticks_of, GoesOnBy}

-- the entry begins at the machine's tick and takes 1 to `most` ticks
pub record Goes (most : ℕ) (old : MachineState) (entry : Entry) (new : MachineState) : Type 0 where
  pub start : start_of entry ≡ old.tick
  pub some : 1 ≤ ticks_of entry
  pub within : ticks_of entry ≤ most
  pub end : new.tick ≡ old.tick + ticks_of entry

-- A busy tick is the record that is due. A stretch of idle ticks begins where no task is named, and goes on to the limit or until
-- one is.
abbrev pub IsDue : ℕ → MachineState → Entry → MachineState → Type 0
IsDue most old (Busy t a) new = records.Busy a ≡ record_at old
IsDue most old (Idle t n) new = (named old.tasks ≡ None) × ((n ≡ most) ⊎ IsSome (named new.tasks))

-- the legal history of a set goes on from tick t by this entry, and so does a machine
pub record Follows (set : TaskSet) (t : ℕ) (entry : Entry) (new : MachineState) : Type 0 where
  pub history : GoesOnBy set t entry
  pub stands : new ≡ state_at set (t + ticks_of entry)
