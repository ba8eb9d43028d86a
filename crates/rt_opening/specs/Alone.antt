-- What a program on one object means that runs it alone.
use Rattle.std.specs.Prelude.{◌≡◌, ℕ, if◌then◌else◌, List, [], ◌∷◌, Option, Some, None, Result, Ok, Err}
use Rattle.std.specs.Option.{option_map}
use Rattle.rt_words.specs.Limits.{is_ram_size}
use Rattle.rt_image.specs.ObjectFile.{ObjectValue, IsObject, spelling}
use Rattle.rt_image.specs.ObjectReading.{spelled_object}
use Rattle.rt_image.specs.declared.system.Version.TheVariants.{One, Two}
use Rattle.rt_image.specs.SystemFile.{TaskSet}
use Rattle.rt_core.specs.Loading.{load_fault}
use Rattle.rt_opening.specs.Faults.{sim_load_fault}
use Rattle.rt_opening.specs.declared.solo_task.SoloTask.{SoloTask}
use Rattle.rt_opening.specs.declared.fault.LoadFault.TheVariants.{BadSize}
use Rattle.rt_opening.specs.declared.fault.SimFault.{SimFault}
use Rattle.rt_opening.specs.declared.fault.SimFault.TheVariants as faults

-- the file is the one spelling of this object
pub record Spells (file : List ℕ) (o : ObjectValue) : Type 0 where
  pub valid : IsObject o
  pub bytes : file ≡ spelling o

-- the set of one task that runs this object alone, with the whole hart as its share
abbrev pub alone : ObjectValue → SoloTask → TaskSet
alone o task = record {
  version = if task.split then Two else One;
  hyper = 1;
  tasks = record { budget = 1; period = 1; start = 0; split = task.split; ram = task.ram; object = o } ∷ [];
}

-- why an object can't be run as this task
abbrev pub solo_fault : ObjectValue → SoloTask → Option SimFault
solo_fault o task = if is_ram_size task.ram then option_map sim_load_fault (load_fault (alone o task)) else Some (faults.Load BadSize)

-- what is told of the object of a file once it is loaded alone, or why it isn't
abbrev pub AloneMeans : (TaskSet → List ℕ) → List ℕ → SoloTask → Result (List ℕ) SimFault → Type 0
AloneMeans told file task (Ok text) = (o : ObjectValue) × Spells file o × (solo_fault o task ≡ None) × (text ≡ told (alone o task))
AloneMeans told file task (Err (faults.Image fault)) = spelled_object file ≡ Err fault
AloneMeans told file task (Err fault) = (o : ObjectValue) × Spells file o × (solo_fault o task ≡ Some fault)
