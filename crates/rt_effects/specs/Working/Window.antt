-- The text of a window of ticks, as a machine goes on through it.
use Rattle.std.specs.Prelude.{◌≡◌, ℕ, ◌+◌, ◌<◌, ◌⊎◌, List, ◌++◌, drop, slice_get, Option, Some, IsSome}
use Rattle.std.specs.List.{flat_map}
use Rattle.rt_image.specs.SystemFile.{SetTask, TaskSet}
use Rattle.rt_history.specs.declared.record.Entry.{Entry}
use Rattle.rt_history.specs.declared.record.Entry.TheVariants.{Busy, Idle}
use Rattle.rt_history.specs.Named.{named}
use Rattle.rt_history.specs.MachineState.{MachineState}
use Rattle.rt_history.specs.Legal.{legal, state_at}
use Rattle.rt_history.specs.Entries.{entries_from}
use Rattle.rt_history.specs.Working.EndsBusy.{EndsBusy}
use Rattle.rt_effects.specs.TraceText.{entry_line, state_before}

-- the text of the ticks from tick `from` on, up to tick t
abbrev pub text_to : TaskSet → Option ℕ → ℕ → ℕ → List ℕ
text_to set task from t = flat_map (entry_line set task) (entries_from from (drop from (legal set t)))

-- it may be cut at tick t: it ends busy there, or the next tick is busy
abbrev pub IsCut : TaskSet → ℕ → ℕ → Type 0
IsCut set from t = EndsBusy (drop from (legal set t)) ⊎ IsSome (named (state_at set t).tasks)

-- these lines are the text from tick t on, a machine has come to this state, and the text may be cut there before tick n
pub record IsTold (set : TaskSet) (task : Option ℕ) (from n t : ℕ) (lines : List ℕ) (after : MachineState) : Type 0 where
  pub stands : after ≡ state_at set after.tick
  pub text : text_to set task from after.tick ≡ text_to set task from t ++ lines
  pub cut : after.tick < n → IsCut set from after.tick

-- a busy entry was a tick of this machine's set, before which its task had these registers and after which the machine stands
abbrev pub Ends : TaskSet → Entry → MachineState → List ℕ → Type 0
Ends set (Busy t a) after x = (s : SetTask) × (slice_get set.tasks a.task ≡ Some s) × (after ≡ state_at set (t + 1)) × (x ≡ (state_before set t a.task s).x)
Ends set (Idle t n) after x = Unit {0}
