-- What ends a line that tells of a task: the task's name. Names are words of letters, digits, `_`, `.` and `$`, so they need no quotes.
use Rattle.std.specs.Prelude.{ℕ, List, ◌++◌, codes}
use Rattle.rt_names.specs.TaskNames.{name_at}

-- that of task i, of these names
abbrev pub name_end : List (List ℕ) → ℕ → List ℕ
name_end names i = name_at names i ++ codes "\n"
