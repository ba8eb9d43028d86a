-- What a system file spells: tasks with the objects that they run. All numbers are little-endian.
use Rattle.std.specs.Prelude.{◌≡◌, ℕ, ◌^◌, ◌<◌, ◌≤◌, Bool, true, false, not, List, [], ◌∷◌, ◌++◌, length, map, codes}
use Rattle.std.specs.List.{flat_map}
use Rattle.byteorder.specs.Endian.{little_bytes}
use Rattle.rt_words.specs.Limits.{is_ram_size}
use Rattle.rt_image.specs.declared.system.Version.{Version}
use Rattle.rt_image.specs.declared.system.Version.TheVariants.{One, Two}
use Rattle.rt_image.specs.declared.system.Task.{Task}
use Rattle.rt_image.specs.declared.system.System.{System}
use Rattle.rt_image.specs.ObjectFile.{ObjectValue, object_value, IsObject, spelling}

-- a task, without where its object lies in memory
pub record SetTask : Type 0 where
  pub budget : ℕ
  pub period : ℕ
  pub start : ℕ
  pub split : Bool
  pub ram : ℕ
  pub object : ObjectValue

-- the tasks of a system, its hyperperiod, and the version of its file
pub record TaskSet : Type 0 where
  pub version : Version
  pub hyper : ℕ
  pub tasks : List SetTask

-- what the program's tasks and systems stand for
abbrev pub set_task : Task → SetTask
set_task t = record { budget = t.budget; period = t.period; start = t.start; split = t.split; ram = t.ram; object = object_value t.object }

abbrev pub set_tasks : List Task → List SetTask
set_tasks ts = map set_task ts

abbrev pub task_set : System → TaskSet
task_set s = record { version = s.version; hyper = s.hyper; tasks = set_tasks s.tasks.items }

-- only version Two has a place for the flag of a task
abbrev pub may_split : Version → Bool → Bool
may_split One split = not split
may_split Two split = true

-- a task that has a spelling: times of 32 bits, a flag that the version allows, a size of RAM, and an object that has one
pub record IsTask (version : Version) (t : SetTask) : Type 0 where
  pub budget_fits : t.budget < 2 ^ 32
  pub period_fits : t.period < 2 ^ 32
  pub start_fits : t.start < 2 ^ 32
  pub flag_fits : may_split version t.split ≡ true
  pub ram_fits : is_ram_size t.ram ≡ true
  pub object_fits : IsObject t.object

-- each of them is such a task
abbrev pub AreTasks : Version → List SetTask → Type 0
AreTasks version [] = Unit {0}
AreTasks version (t ∷ ts) = IsTask version t × AreTasks version ts

-- the most tasks that a file can hold
abbrev pub task_limit : ℕ
task_limit = 256

-- what has a spelling
pub record IsSystem (s : TaskSet) : Type 0 where
  pub hyper_fits : s.hyper < 2 ^ 32
  pub count : length s.tasks ≤ task_limit
  pub tasks_fit : AreTasks s.version s.tasks

-- the first bytes of the file
abbrev pub magic : Version → List ℕ
magic One = codes "RTS1"
magic Two = codes "RTS2"

-- a task's times
abbrev pub times_spelling : ℕ → ℕ → ℕ → List ℕ
times_spelling budget period start = little_bytes 4 budget ++ little_bytes 4 period ++ little_bytes 4 start

-- the number of a task's flag
abbrev pub flags : Bool → ℕ
flags false = 0
flags true = 1

-- it stands in files of version Two
abbrev pub flags_spelling : Version → Bool → List ℕ
flags_spelling One split = []
flags_spelling Two split = little_bytes 4 (flags split)

-- the times, the flag, the size of RAM, and the length of the object's spelling
abbrev pub front_spelling : Version → ℕ → ℕ → ℕ → Bool → ℕ → ℕ → List ℕ
front_spelling version budget period start split ram size = times_spelling budget period start ++ flags_spelling version split ++ little_bytes 4 ram ++ little_bytes 4 size

-- these, and then the object
unfoldable pub task_spelling : Version → SetTask → List ℕ
task_spelling version t = front_spelling version t.budget t.period t.start t.split t.ram (length (spelling t.object)) ++ spelling t.object

-- the magic, the hyperperiod, and the number of tasks
abbrev pub set_front_spelling : Version → ℕ → ℕ → List ℕ
set_front_spelling version hyper count = magic version ++ little_bytes 4 hyper ++ little_bytes 4 count

-- these, and then the tasks
abbrev pub system_spelling : TaskSet → List ℕ
system_spelling s = set_front_spelling s.version s.hyper (length s.tasks) ++ flat_map (task_spelling s.version) s.tasks
