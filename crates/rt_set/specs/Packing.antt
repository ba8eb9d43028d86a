-- The system file of a set whose files are known.
use Rattle.std.specs.Prelude.{◌≡◌, ℕ, List, [], ◌∷◌, Result, Ok, Err, if◌then◌else◌}
use Rattle.std.specs.Global.{Vec}
use Rattle.rt_words.specs.Chain.{◌>>=◌}
use Rattle.rt_image.specs.declared.fault.ImageFault.{ImageFault}
use Rattle.rt_image.specs.declared.fault.ImageFault.TheVariants.{BadField}
use Rattle.rt_image.specs.declared.system.Version.{Version}
use Rattle.rt_image.specs.declared.system.Version.TheVariants.{One, Two}
use Rattle.rt_image.specs.ObjectReading.{spelled_object}
use Rattle.rt_image.specs.SystemFile.{SetTask, TaskSet, IsSystem, system_spelling}
use Rattle.rt_set.specs.declared.packing.PackTask.{PackTask}
use Rattle.rt_image.specs.ReadFaults.{ReadFault}
use Rattle.rt_words.specs.declared.or_memory.OrMemory.TheVariants.{Memory, Fault as Image}
use Rattle.rt_set.specs.SetFile.{TaskEntry, task_entry}

-- a task line with the bytes of the file that it names
pub record PackEntry : Type 0 where
  pub line : TaskEntry
  pub file : List ℕ

-- what the program's lines with files stand for
abbrev pub pack_entry : PackTask → PackEntry
pack_entry t = record { line = task_entry t.line; file = t.file.items }

-- the task of a line, with the object that its file spells
unfoldable pub packed_task : PackEntry → Result SetTask ImageFault
packed_task t = do
  object ← spelled_object t.file
  Ok (record { budget = t.line.budget; period = t.line.period; start = t.line.start; split = t.line.split; ram = t.line.ram; object = object })

-- the tasks in order, or the refusal of the first file that spells no object
unfoldable pub packed_tasks : List PackEntry → Result (List SetTask) ImageFault
packed_tasks [] = Ok []
packed_tasks (t ∷ ts) = do
  first ← packed_task t
  others ← packed_tasks ts
  Ok (first ∷ others)

-- the version that has a place for the flags of these tasks: Two where one of them is set
abbrev pub version_for : List SetTask → Version
version_for [] = One
version_for (t ∷ ts) = if t.split then Two else version_for ts

-- a set of these tasks
abbrev pub packed_set : ℕ → List SetTask → TaskSet
packed_set hyper tasks = record { version = version_for tasks; hyper = hyper; tasks = tasks }

-- what packing answers: where the files give the tasks, the spelling of their set, or BadField where it has none; else the refusal
-- of the file; or memory ran out
abbrev pub Packs : ℕ → Result (Vec ℕ) ReadFault → Result (List SetTask) ImageFault → Type 0
Packs hyper (Ok file) (Ok tasks) = IsSystem (packed_set hyper tasks) × (file.items ≡ system_spelling (packed_set hyper tasks))
Packs hyper (Ok file) (Err fault) = ⊥
Packs hyper (Err Memory) read = Unit {0}
Packs hyper (Err (Image fault)) (Ok tasks) = (fault ≡ BadField) × ¬ IsSystem (packed_set hyper tasks)
Packs hyper (Err (Image fault)) (Err refusal) = fault ≡ refusal
