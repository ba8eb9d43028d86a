-- One entry as a step between a machine's states.
use Rattle.std.specs.Prelude.{◌≡◌, ℕ, ◌≤◌, ◌⊎◌, IsSome}
use Rattle.rt_history.specs.declared.record.Record.TheVariants as records
use Rattle.rt_history.specs.declared.record.Entry.{Entry}
use Rattle.rt_history.specs.declared.record.Entry.TheVariants.{Busy, Idle}
use Rattle.rt_history.specs.Named.{named}
use Rattle.rt_history.specs.MachineState.{MachineState}
use Rattle.rt_history.specs.Legal.{record_at}
use Rattle.rt_history.specs.Working.Step.{next_state, passed, IsIdleFor}

-- n idle ticks, at most so many, and no more only where a task is named then
pub record Idles (most n : ℕ) (old new : MachineState) : Type 0 where
  pub some : 1 ≤ n
  pub within : n ≤ most
  pub idle : IsIdleFor n old
  pub state : new ≡ passed n old
  pub longest : (n ≡ most) ⊎ IsSome (named new.tasks)

abbrev pub Moves : ℕ → MachineState → Entry → MachineState → Type 0
Moves most old (Busy t a) new = (t ≡ old.tick) × (records.Busy a ≡ record_at old) × (new ≡ next_state old)
Moves most old (Idle t n) new = (t ≡ old.tick) × Idles most n old new
