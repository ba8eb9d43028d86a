-- Which task of a set a word means, its tasks having these names.
use Rattle.std.specs.Prelude.{ℕ, nat_lt, ◌==◌, if◌then◌else◌, List, [], ◌∷◌, ◌++◌, length, count_by, position, bytes_eq, Result, Ok, Err}
use Rattle.std.specs.Option.{option_map_or}
use Rattle.rt_words.specs.Run.{run}
use Rattle.rt_names.specs.declared.task_word.TaskWord.{TaskWord}
use Rattle.rt_names.specs.declared.task_word.TaskWord.TheVariants.{Number, Name}
use Rattle.rt_names.specs.declared.task_word.TaskFault.{TaskFault}
use Rattle.rt_names.specs.declared.task_word.TaskFault.TheVariants.{NoTask, NoName, Several}

-- how many tasks have this name
abbrev pub having : List ℕ → List (List ℕ) → ℕ
having word names = count_by (λ name. bytes_eq name word) names

-- a number means the task that has it; a name, the one task that has it
abbrev pub task_of : List (List ℕ) → TaskWord → Result ℕ TaskFault
task_of names (Number i) = if nat_lt i (length names) then Ok i else Err (NoTask i (length names))
task_of names (Name word) =
    option_map_or (λ i. if having word.now names == 1 then Ok i else Err (Several word (having word.now names)))
    (position (λ name. bytes_eq name word.now) names) (Err (NoName word))

abbrev pub with_task : List ℕ → Result ℕ TaskFault → Result (List ℕ) TaskFault
with_task tasks (Ok i) = Ok (tasks ++ i ∷ [])
with_task tasks (Err fault) = Err fault

-- the tasks that some words mean, in their order; or why the first of them that means none does
abbrev pub tasks_of : List (List ℕ) → List TaskWord → Result (List ℕ) TaskFault
tasks_of names words = run (λ _ fault. fault) (λ tasks word. with_task tasks (task_of names word)) 0 [] words
