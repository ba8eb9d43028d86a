-- What a program on a system file means that may be asked for one task of the set, by its number or by a word.
use Rattle.std.specs.Prelude.{◌≡◌, ℕ, ◌<◌, ◌≤◌, List, [], length, Option, Some, None, IfSome, Result, Ok, Err}
use Rattle.rt_admit.specs.declared.admission.Admission.{Admission}
use Rattle.rt_core.specs.Loading.{load_fault_under}
use Rattle.rt_image.specs.SystemFile.{TaskSet}
use Rattle.rt_names.specs.TaskNames.{task_names}
use Rattle.rt_names.specs.TaskWords.{task_of}
use Rattle.rt_names.specs.declared.task_word.TaskWord.{TaskWord}
use Rattle.rt_opening.specs.Sets.{SpellsSet, SetMeans}
use Rattle.rt_opening.specs.declared.fault.SimFault.{SimFault}
use Rattle.rt_opening.specs.declared.fault.SimFault.TheVariants as faults

-- the task of this number, if one is asked for, is among so many
abbrev pub IsThere : ℕ → Option ℕ → Type 0
IsThere count task = IfSome task (λ i. i < count)

-- it isn't, and the fault says so
abbrev pub IsMissing : ℕ → Option ℕ → SimFault → Type 0
IsMissing count task fault = (i : ℕ) × (task ≡ Some i) × (count ≤ i) × (fault ≡ faults.NoTask i count)

-- what is told of the set of a file, and of the task of this number, once the set is loaded; or why it isn't; or no such task is in it
abbrev pub TaskMeans : Admission → Option ℕ → (TaskSet → Option ℕ → List ℕ) → List ℕ → Result (List ℕ) SimFault → Type 0
TaskMeans admission task told file (Ok text) =
    (s : TaskSet) × SpellsSet file s × (load_fault_under admission s ≡ None) × IsThere (length s.tasks) task × (text ≡ told s task)
TaskMeans admission task told file (Err (faults.NoTask i count)) =
    (s : TaskSet) × SpellsSet file s × (load_fault_under admission s ≡ None) × IsMissing (length s.tasks) task (faults.NoTask i count)
TaskMeans admission task told file (Err fault) = SetMeans admission (λ _. []) file (Err fault)

-- of tasks with these names the word means this one; no word means none
abbrev pub IsMeant : List (List ℕ) → Option TaskWord → Option ℕ → Type 0
IsMeant names None task = task ≡ None
IsMeant names (Some word) task = (i : ℕ) × (task_of names word ≡ Ok i) × (task ≡ Some i)

-- in a set that the file spells
abbrev pub MeansTask : List ℕ → Option TaskWord → Option ℕ → Type 0
MeansTask file word task = (s : TaskSet) → SpellsSet file s → IsMeant (task_names s) word task

-- what is told of the set of a file, and of the task that the word means, once the set is loaded; or why it isn't
abbrev pub WordMeans : Admission → Option TaskWord → (TaskSet → Option ℕ → List ℕ) → List ℕ → Result (List ℕ) SimFault → Type 0
WordMeans admission word told file (Ok text) =
    (s : TaskSet) × SpellsSet file s × (load_fault_under admission s ≡ None) × (task : Option ℕ) × IsMeant (task_names s) word task × (text ≡ told s task)
WordMeans admission word told file (Err fault) = SetMeans admission (λ _. []) file (Err fault)
