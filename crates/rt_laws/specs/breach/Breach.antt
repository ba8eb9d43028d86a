-- The first task of a machine whose unspent budget doesn't fit before its deadline.
use Rattle.std.specs.Prelude.{◌≡◌, ℕ, ◌+◌, ◌<◌, slice_get, Some}
use Rattle.rt_history.specs.declared.mode.Mode.TheVariants.{Active}
use Rattle.rt_history.specs.OwnPart.{TaskState}
use Rattle.rt_history.specs.MachineState.{MachineState}
use Rattle.rt_history.specs.Fit.{TaskFits}
use Rattle.rt_laws.specs.declared.breach.exceeding.Breach.{Breach}

-- task b.task is active with this current budget and this deadline, which don't fit at the machine's tick; each task before it fits
pub record IsFirstBreach (m : MachineState) (b : Breach) : Type 0 where
  pub task : TaskState
  pub there : slice_get m.tasks b.task ≡ Some task
  pub active : task.serving.mode ≡ Active
  pub c : b.c ≡ task.serving.account.c
  pub d : b.d ≡ task.serving.account.d
  pub exceeds : b.d < m.tick + b.c
  pub first : (i : ℕ) (x : TaskState) → i < b.task → slice_get m.tasks i ≡ Some x → TaskFits m.tick x
