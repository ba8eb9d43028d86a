-- What a program on a system file means.
use Rattle.std.specs.Prelude.{◌≡◌, ℕ, List, Some, None, Result, Ok, Err}
use Rattle.std.specs.Option.{option_map}
use Rattle.rt_admit.specs.declared.admission.Admission.{Admission}
use Rattle.rt_image.specs.SystemFile.{TaskSet, IsSystem, system_spelling}
use Rattle.rt_image.specs.SystemReading.{system_of}
use Rattle.rt_core.specs.Loading.{load_fault_under}
use Rattle.rt_opening.specs.Faults.{sim_load_fault}
use Rattle.rt_opening.specs.declared.fault.SimFault.{SimFault}
use Rattle.rt_opening.specs.declared.fault.SimFault.TheVariants as faults

-- the file is the one spelling of this set
pub record SpellsSet (file : List ℕ) (s : TaskSet) : Type 0 where
  pub valid : IsSystem s
  pub bytes : file ≡ system_spelling s

-- what is told of the set of a file once it is loaded, where admission is required or waived; or why it isn't loaded
abbrev pub SetMeans : Admission → (TaskSet → List ℕ) → List ℕ → Result (List ℕ) SimFault → Type 0
SetMeans admission told file (Ok text) = (s : TaskSet) × SpellsSet file s × (load_fault_under admission s ≡ None) × (text ≡ told s)
SetMeans admission told file (Err (faults.Image fault)) = system_of file ≡ Err fault
SetMeans admission told file (Err fault) = (s : TaskSet) × SpellsSet file s × (option_map sim_load_fault (load_fault_under admission s) ≡ Some fault)
