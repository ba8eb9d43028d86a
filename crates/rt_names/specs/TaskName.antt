-- The name of a task.
use Rattle.std.specs.Prelude.{ℕ, ◌==◌, ◌&&◌, not, Bool, true, List, [], ◌∷◌, ◌++◌, Option, codes, decimal}
use Rattle.std.specs.List.{filter, reduce}
use Rattle.std.specs.Option.{option_map_or}
use Rattle.rt_image.specs.ObjectFile.{Label, ObjectValue}
use Rattle.rt_names.specs.Parts.{nearer}

-- a name that begins neither with `_` nor with `.`
abbrev pub is_plain : List ℕ → Bool
is_plain [] = true
is_plain (c ∷ name) = not (c == 95) && not (c == 46)

-- a symbol at an entry that can name a task
abbrev pub can_name : ℕ → Label → Bool
can_name entry l = l.address == entry && is_plain l.name

-- of these symbols the one that names the task that begins at an entry: of those that can, the one with the shortest name, of several
-- as short the first by their bytes
abbrev pub namer_among : ℕ → List Label → Option Label
namer_among entry ls = reduce nearer (filter (can_name entry) ls)

-- the symbol that names the task of an object
abbrev pub own_namer : ObjectValue → Option Label
own_namer o = namer_among o.entry o.labels

-- the name of task i; where no symbol names it, `task` and its number
abbrev pub task_name : ℕ → ObjectValue → List ℕ
task_name i o = option_map_or (λ l. l.name) (own_namer o) (codes "task" ++ decimal i)
