-- The text of a run: its history, and then each task's state.
use Rattle.std.specs.Prelude.{ℕ, List, ◌++◌, codes, decimal}
use Rattle.std.specs.List.{flat_map, enumerate_from}
use Rattle.rt_image.specs.SystemFile.{TaskSet}
use Rattle.rt_history.specs.OwnPart.{TaskState}
use Rattle.rt_history.specs.MachineState.{MachineState}
use Rattle.rt_history.specs.Legal.{legal, state_at}
use Rattle.rt_core.specs.View.{shown}
use Rattle.rt_trace.specs.HistoryText.{history_text}
use Rattle.rt_trace.specs.TaskText.{task_text}
use Rattle.rt_trace.specs.declared.telling.Telling.{Telling}

abbrev pub after_line : ℕ → List ℕ
after_line ticks = codes "after " ++ decimal ticks ++ codes "\n"

-- the tasks in order
abbrev pub tasks_text : Telling → List TaskState → List ℕ
tasks_text telling tasks = flat_map (λ n. task_text telling n.0 (shown n.1) n.1.program.output) (enumerate_from 0 tasks)

-- what is told of a machine after its ticks
abbrev pub end_text : Telling → MachineState → List ℕ
end_text telling m = after_line m.tick ++ tasks_text telling m.tasks

-- the run of n ticks of a set
abbrev pub run_text : Telling → TaskSet → ℕ → List ℕ
run_text telling set n = history_text (legal set n) ++ end_text telling (state_at set n)
