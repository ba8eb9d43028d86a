-- What nobody takes from a task: the time that its server reserves before the deadline.
use Rattle.std.specs.Prelude.{◌≡◌, ℕ, All}
use Rattle.rt_server.specs.Fit.{Fits}
use Rattle.rt_history.specs.declared.mode.Mode.TheVariants.{Active}
use Rattle.rt_history.specs.OwnPart.{TaskState}
use Rattle.rt_history.specs.MachineState.{MachineState}

-- an active task's unspent budget fits before its deadline
abbrev pub TaskFits : ℕ → TaskState → Type 0
TaskFits t s = s.serving.mode ≡ Active → Fits t s.serving.account

-- each active task's does
abbrev pub AllFit : MachineState → Type 0
AllFit m = All (TaskFits m.tick) m.tasks
