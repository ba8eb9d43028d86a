-- The name of a task, by the symbol that names it.
use Rattle.std.specs.Prelude.{ℕ, List, ◌++◌, Option, codes, decimal}
use Rattle.std.specs.Option.{option_map_or}
use Rattle.rt_image.specs.ObjectFile.{Label}

-- the name of the symbol that names a task, or `task` and the task's number
abbrev pub name_of : ℕ → Option Label → List ℕ
name_of i found = option_map_or (λ l. l.name) found (codes "task" ++ decimal i)
