-- What `step` and `back` do.
use Rattle.std.specs.Prelude.{◌≡◌, ℕ, ◌+◌, ◌-◌, ◌<◌, ◌≤◌, min, max, Result, Ok, Err}
use Rattle.rt_words.specs.Limits.{tick_limit}
use Rattle.rt_history.specs.MachineState.{MachineState}
use Rattle.rt_core.specs.declared.view.Next.TheVariants.{Run}
use Rattle.rt_core.specs.Next.{next_of}
use Rattle.rt_command.specs.declared.refusal.Refusal.{Refusal}
use Rattle.rt_command.specs.declared.refusal.Refusal.TheVariants.{NoMemory, BeforeStart}
use Rattle.rt_walk.specs.Position.{IsReached, WalkState}

-- the first place stays, and what is shown is reached from there
pub record IsWalk (old new : WalkState) : Type 0 where
  pub first : new.first ≡ old.first
  pub reached : IsReached new.first new.shown

-- n ticks on, fewer only where tick 2^40 comes before
pub record Steps (old : WalkState) (n : ℕ) (new : WalkState) : Type 0 where
  pub walk : IsWalk old new
  pub tick : new.shown.machine.tick ≡ old.shown.machine.tick + min n (tick_limit - old.shown.machine.tick)

-- n ticks back
pub record IsBack (old : WalkState) (n : ℕ) (new : WalkState) : Type 0 where
  pub walk : IsWalk old new
  pub enough : old.first.machine.tick + n ≤ old.shown.machine.tick
  pub tick : new.shown.machine.tick ≡ old.shown.machine.tick - n

-- the way back is refused exactly before the first tick, or memory runs out; then nothing has changed
abbrev pub Backs : {X : Type 0} → WalkState → ℕ → Result X Refusal → WalkState → Type 0
Backs old n (Ok x) new = IsBack old n new
Backs old n (Err NoMemory) new = (old.first.machine.tick + n ≤ old.shown.machine.tick) × (new ≡ old)
Backs old n (Err BeforeStart) new = (old.shown.machine.tick < old.first.machine.tick + n) × (new ≡ old)
Backs old n (Err _) new = ⊥

-- the coming tick is of task i
abbrev pub Names : ℕ → MachineState → Type 0
Names i m = (pc : ℕ) × (next_of m ≡ Run i pc)

-- the lowest tick of a look back that is to lead to tick t: not before the first, nor after what is shown
abbrev pub lowest : ℕ → WalkState → ℕ
lowest t walk = min (max t walk.first.machine.tick) walk.shown.machine.tick
