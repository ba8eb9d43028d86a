-- Which lines of a set file say something, and which are those of tasks.
use Rattle.std.specs.Prelude.{ℕ, ◌+◌, ◌-◌, ◌&&◌, nat_lt, if◌then◌else◌, List, [], ◌∷◌, Option, Some, None}
use Rattle.rt_set.specs.SetFile.{says_something}

-- 1 where a line says something
abbrev pub said_of : List ℕ → ℕ
said_of line = if says_something line then 1 else 0

-- how many lines say something before line n, where lines count from 1
abbrev pub said_before : ℕ → List (List ℕ) → ℕ
said_before n [] = 0
said_before n (l ∷ ls) = if nat_lt 1 n then said_of l + said_before (n - 1) ls else 0

-- The number of the line of a task among lines of which the first is line n, with so many before it that say something: as the first
-- of all that do is the `hyper` line, more than the tasks before it do.
abbrev pub task_line_from : ℕ → ℕ → ℕ → List (List ℕ) → Option ℕ
task_line_from task n said [] = None
task_line_from task n said (l ∷ ls) =
    if says_something l && nat_lt task said then Some n else task_line_from task (n + 1) (said + said_of l) ls

-- the number of the line of a task, which is counted from 0, among all lines
abbrev pub line_of_task : ℕ → List (List ℕ) → Option ℕ
line_of_task task lines = task_line_from task 1 0 lines
