-- Which sets are admitted (Liu and Layland 1973: utilisations sum to at most one).
use Rattle.std.specs.Prelude.{List, map}
use Rattle.rt_admit.specs.declared.params.Params.{Params}
use Rattle.rt_admit.specs.Admission.{IsAdmitted}
use Rattle.rt_image.specs.SystemFile.{SetTask, TaskSet}

-- what a task asks for, and what all of them do
abbrev pub params_in : SetTask → Params
params_in t = record { budget = t.budget; period = t.period; start = t.start }

abbrev pub task_params : List SetTask → List Params
task_params ts = map params_in ts

abbrev pub IsAdmittedSet : TaskSet → Type 0
IsAdmittedSet set = IsAdmitted set.hyper (task_params set.tasks)
