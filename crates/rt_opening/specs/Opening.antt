-- What the opening of a set answers.
use Rattle.std.specs.Prelude.{◌≡◌, length, Some, None, Result, Ok, Err}
use Rattle.std.specs.Option.{option_map}
use Rattle.rt_image.specs.SystemFile.{TaskSet}
use Rattle.rt_history.specs.Admitted.{task_params}
use Rattle.rt_history.specs.MachineState.{MachineState}
use Rattle.rt_history.specs.Legal.{state_at}
use Rattle.rt_admit.specs.declared.admission.Admission.{Admission}
use Rattle.rt_admit.specs.AdmittedSet.{AdmittedSet}
use Rattle.rt_core.specs.Loading.{load_fault_under}
use Rattle.rt_opening.specs.Faults.{sim_load_fault}
use Rattle.rt_opening.specs.declared.fault.SimFault.{SimFault}
use Rattle.rt_opening.specs.declared.fault.SimFault.TheVariants.{Memory}
use Rattle.rt_opening.specs.declared.opening.Opened.{Opened}

-- a set that can be run, and its machine at tick 0, which has a task for each of the set's
pub record IsOpen (admission : Admission) (s : TaskSet) (machine : MachineState) (runnable : AdmittedSet) : Type 0 where
  pub loads : load_fault_under admission s ≡ None
  pub stands : machine ≡ state_at s 0
  pub start : machine.tick ≡ 0
  pub asked : task_params s.tasks ≡ runnable.tasks
  pub count : length runnable.tasks ≡ length machine.tasks
  pub many : length s.tasks ≡ length machine.tasks

-- the set is open; or there is no memory, or this is why it can't be loaded
abbrev pub Opens : Admission → TaskSet → Result Opened SimFault → Type 0
Opens admission s (Ok opened) = IsOpen admission s opened.machine opened.runnable
Opens admission s (Err Memory) = Unit {0}
Opens admission s (Err fault) = option_map sim_load_fault (load_fault_under admission s) ≡ Some fault
