-- The system file of a set file and of the files that it names: what `pack` makes of them.
use Rattle.std.specs.Prelude.{◌≡◌, ⊤, ◌⊎◌, ℕ, ◌+◌, List, [], ◌∷◌, ◌++◌, map, All, true, false, Option, Some, Ok, Err, IsOk}
use Rattle.std.specs.Global.{Vec}
use Rattle.rt_desk.specs.Desk.{Files}
use Rattle.rt_desk.specs.declared.reading.kind.FileKind.TheVariants.{Object}
use Rattle.rt_desk.specs.reading.Reads.{Reads}
use Rattle.rt_elf.specs.flat.ElfMagic.{is_elf}
use Rattle.rt_image.specs.ObjectReading.{spelled_object}
use Rattle.rt_set.specs.SetFile.{TaskEntry, SetEntries, IsSetFile}
use Rattle.rt_set.specs.FirstFault.{IsRefusal}
use Rattle.rt_set.specs.Packing.{PackEntry, packed_tasks, Packs}
use Rattle.rt_words.specs.declared.or_memory.OrMemory.TheVariants as reads
use Rattle.rt_perform.specs.declared.program.ProgramFault.{ProgramFault}
use Rattle.rt_perform.specs.declared.program.ProgramFault.TheVariants.{Set, Pack, Elf}
use Rattle.rt_perform.specs.Inputs.{IsApart, IsUnreadAt}
use Rattle.rt_perform.specs.Objects.{StandsForObject, StandsForNone}

-- the file that a line names was read, and isn't what is made
abbrev pub IsTaskRead : Option Files → Option (List ℕ) → List ℕ → List ℕ → Type 0
IsTaskRead files made path file = Reads Object files path file × IsApart made (Some path)

-- the same of each line
abbrev pub AreTasksRead : Option Files → Option (List ℕ) → List TaskEntry → List PackEntry → Type 0
AreTasksRead files made lines tasks = (map (λ t. t.line) tasks ≡ lines) × All (λ t. IsTaskRead files made t.line.path t.file) tasks

-- the file of one of these lines isn't read, and those of all lines before it are
abbrev pub IsTaskUnread : Option Files → Option (List ℕ) → List TaskEntry → ProgramFault → Type 0
IsTaskUnread files made lines fault =
    (front : List TaskEntry) × (tasks : List PackEntry) × (line : TaskEntry) × (back : List TaskEntry)
    × (lines ≡ front ++ line ∷ back) × AreTasksRead files made front tasks × IsUnreadAt files made line.path fault

-- a line with the object file that its file stands for, and how many names are left out
pub record IsObjectTask (task object : PackEntry) (left_out : ℕ) : Type 0 where
  pub line : object.line ≡ task.line
  pub stands : StandsForObject task.line.path task.file object.file left_out
  pub read : IsOk (spelled_object object.file)

-- the same of several lines
abbrev pub AreObjectTasks : List PackEntry → List PackEntry → ℕ → Type 0
AreObjectTasks [] [] left_out = left_out ≡ 0
AreObjectTasks (task ∷ tasks) (object ∷ objects) left_out =
    (first others : ℕ) × IsObjectTask task object first × AreObjectTasks tasks objects others × (left_out ≡ first + others)
AreObjectTasks tasks objects left_out = ⊥

-- the file of a line stands for no object, or there is no memory to read it
abbrev pub IsFaultyTask : PackEntry → ProgramFault → Type 0
IsFaultyTask task (Pack (reads.Fault fault) number) = (is_elf task.file ≡ false) × (spelled_object task.file ≡ Err fault)
IsFaultyTask task (Pack reads.Memory number) = ⊤
IsFaultyTask task fault = (is_elf task.file ≡ true) × StandsForNone task.file fault

-- that is so of one of these lines, and the files of all lines before it stand for objects
abbrev pub HasFaultyTask : List PackEntry → ProgramFault → Type 0
HasFaultyTask tasks fault =
    (front objects : List PackEntry) × (left_out : ℕ) × (task : PackEntry) × (back : List PackEntry)
    × (tasks ≡ front ++ task ∷ back) × AreObjectTasks front objects left_out × IsFaultyTask task fault

-- the system file of the lines with the files that they name, and how many names are left out of all objects
abbrev pub GivesSystem : Option Files → Option (List ℕ) → List ℕ → Vec ℕ → ℕ → Type 0
GivesSystem files made text file left_out =
    (set : SetEntries) × (tasks objects : List PackEntry) × IsSetFile text set × AreTasksRead files made set.tasks tasks
    × AreObjectTasks tasks objects left_out × Packs set.hyper (Ok file) (packed_tasks objects)

-- or why there is none: a line; else a file that isn't read; else one that stands for no object; or there is no memory for the system
abbrev pub RefusesSet : Option Files → Option (List ℕ) → List ℕ → ProgramFault → Type 0
RefusesSet files made text (Set fault) = IsRefusal fault text
RefusesSet files made text (Pack fault number) =
    (set : SetEntries) × (tasks : List PackEntry) × IsSetFile text set × AreTasksRead files made set.tasks tasks
    × (HasFaultyTask tasks (Pack fault number)
    ⊎ ((objects : List PackEntry) × (left_out : ℕ) × AreObjectTasks tasks objects left_out × Packs set.hyper (Err fault) (packed_tasks objects)))
RefusesSet files made text (Elf fault number) =
    (set : SetEntries) × (tasks : List PackEntry) × IsSetFile text set × AreTasksRead files made set.tasks tasks × HasFaultyTask tasks (Elf fault number)
RefusesSet files made text fault = (set : SetEntries) × IsSetFile text set × IsTaskUnread files made set.tasks fault
