-- A run that a report follows.
use Rattle.std.specs.Prelude.{◌≡◌, ℕ, List, [], None, Result, Ok, Err}
use Rattle.rt_admit.specs.declared.admission.Admission.{Admission}
use Rattle.rt_image.specs.ObjectFile.{ObjectValue}
use Rattle.rt_image.specs.SystemFile.{TaskSet}
use Rattle.rt_names.specs.TaskNames.{task_names}
use Rattle.rt_history.specs.MachineState.{MachineState}
use Rattle.rt_history.specs.Legal.{state_at}
use Rattle.rt_core.specs.Loading.{load_fault_under}
use Rattle.rt_report.specs.Standing.{ReportState, report_at}
use Rattle.rt_opening.specs.Sets.{SpellsSet, SetMeans}
use Rattle.rt_opening.specs.Alone.{Spells, alone, solo_fault, AloneMeans}
use Rattle.rt_opening.specs.declared.solo_task.SoloTask.{SoloTask}
use Rattle.rt_opening.specs.declared.fault.SimFault.{SimFault}
use Rattle.rt_opening.specs.declared.fault.SimFault.TheVariants.{Memory, Device}

-- its machine, the report, and the names of its tasks
pub record Accounts : Type 0 where
  pub machine : MachineState
  pub report : ReportState
  pub names : List (List ℕ)

-- it has run t ticks of the legal history of a set
pub record IsAccounted (set : TaskSet) (t : ℕ) (run : Accounts) : Type 0 where
  pub machine : run.machine ≡ state_at set t
  pub report : run.report ≡ report_at set t
  pub names : run.names ≡ task_names set

-- The set of a file is loaded and has run no tick; or there is no memory, or this is why it isn't loaded, where admission is required or
-- waived.
abbrev pub OpensAccounts : List ℕ → Admission → Result Accounts SimFault → Type 0
OpensAccounts file admission (Ok run) = (set : TaskSet) × SpellsSet file set × (load_fault_under admission set ≡ None) × IsAccounted set 0 run
OpensAccounts file admission (Err Memory) = Unit {0}
OpensAccounts file admission (Err (Device fault)) = ⊥
OpensAccounts file admission (Err fault) = SetMeans admission (λ _. []) file (Err fault)

-- the same of an object alone
abbrev pub OpensAlone : List ℕ → SoloTask → Result Accounts SimFault → Type 0
OpensAlone file task (Ok run) = (o : ObjectValue) × Spells file o × (solo_fault o task ≡ None) × IsAccounted (alone o task) 0 run
OpensAlone file task (Err Memory) = Unit {0}
OpensAlone file task (Err (Device fault)) = ⊥
OpensAlone file task (Err fault) = AloneMeans (λ _. []) file task (Err fault)
