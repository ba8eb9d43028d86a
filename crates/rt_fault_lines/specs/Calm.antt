-- Whether a machine has a task that faulted, or whose output had no room for a write.
use Rattle.std.specs.Prelude.{◌≡◌, Bool, true, false, All}
use Rattle.rt_history.specs.declared.mode.Mode.{Mode}
use Rattle.rt_history.specs.declared.mode.Mode.TheVariants.{Faulted}
use Rattle.rt_history.specs.MachineState.{MachineState}

abbrev pub has_faulted : Mode → Bool
has_faulted (Faulted fault) = true
has_faulted mode = false

-- none of its tasks has faulted, and none was refused a write since its output had no room for it
abbrev pub IsCalm : MachineState → Type 0
IsCalm m = All (λ s. (has_faulted s.serving.mode ≡ false) × (s.program.full ≡ false)) m.tasks
