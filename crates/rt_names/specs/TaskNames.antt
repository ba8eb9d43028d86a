-- The names of the tasks of a set.
use Rattle.std.specs.Prelude.{ℕ, List, [], map, get_or}
use Rattle.std.specs.List.{enumerate_from}
use Rattle.rt_image.specs.SystemFile.{SetTask, TaskSet}
use Rattle.rt_names.specs.TaskName.{task_name}

-- of these tasks, the first of which is task i
abbrev pub names_from : ℕ → List SetTask → List (List ℕ)
names_from i ts = map (λ n. task_name n.0 n.1.object) (enumerate_from i ts)

-- of all tasks, in order of number
abbrev pub task_names : TaskSet → List (List ℕ)
task_names set = names_from 0 set.tasks

-- that of task i, if it is there
abbrev pub name_at : List (List ℕ) → ℕ → List ℕ
name_at names i = get_or names i []
