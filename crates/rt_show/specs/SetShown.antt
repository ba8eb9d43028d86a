-- What a system file holds: the lines of a set file that would give it, with a comment behind each task's line.
use Rattle.std.specs.Prelude.{ℕ, ◌%◌, ◌==◌, if◌then◌else◌, List, ◌++◌, Option, Some, None, codes, decimal}
use Rattle.std.specs.List.{flat_map, enumerate_from}
use Rattle.std.specs.Option.{option_map_or}
use Rattle.rt_admit.specs.Weight.{weight}
use Rattle.rt_image.specs.declared.system.Version.{Version}
use Rattle.rt_image.specs.declared.system.Version.TheVariants.{One, Two}
use Rattle.rt_image.specs.SystemFile.{SetTask, TaskSet}
use Rattle.rt_set.specs.SetFile.{TaskEntry, hyper_line, task_line}
use Rattle.rt_show.specs.ObjectShown.{image_remark}

-- the version, in a comment
abbrev pub version_line : Version → List ℕ
version_line One = codes "# version One"
version_line Two = codes "# version Two"

-- what the set file says of task i: the object of the task stands in a file named by its number
abbrev pub shown_entry : ℕ → SetTask → TaskEntry
shown_entry i t = record { budget = t.budget; period = t.period; start = t.start; split = t.split; ram = t.ram; path = codes "task" ++ decimal i ++ codes ".rti" }

-- what a task asks for in a hyperperiod; none where its period doesn't divide it
abbrev pub whole_weight : ℕ → SetTask → Option ℕ
whole_weight hyper t = if t.period == 0 then None else if hyper % t.period == 0 then Some (weight hyper t.budget t.period) else None

-- a number, or a hyphen
abbrev pub weight_cell : Option ℕ → List ℕ
weight_cell asked = option_map_or decimal asked (codes "-")

-- the comment behind the line of a task
abbrev pub task_remark : ℕ → SetTask → List ℕ
task_remark hyper t = image_remark t.object ++ codes ", weight " ++ weight_cell (whole_weight hyper t)

-- the lines of task i
abbrev pub task_shown : ℕ → ℕ → SetTask → List ℕ
task_shown hyper i t = task_line (shown_entry i t) ++ codes "\n" ++ task_remark hyper t ++ codes "\n"

abbrev pub tasks_shown : ℕ → List SetTask → List ℕ
tasks_shown hyper ts = flat_map (λ n. task_shown hyper n.0 n.1) (enumerate_from 0 ts)

-- the text of a set
abbrev pub set_shown : TaskSet → List ℕ
set_shown s = version_line s.version ++ codes "\n" ++ hyper_line s.hyper ++ codes "\n" ++ tasks_shown s.hyper s.tasks
