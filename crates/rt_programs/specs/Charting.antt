-- What the picture of a system means.
use Rattle.std.specs.Prelude.{◌≡◌, ℕ, List, [], None, Result, Ok, Err}
use Rattle.rt_admit.specs.declared.admission.Admission.{Admission}
use Rattle.rt_core.specs.Loading.{load_fault_under}
use Rattle.rt_image.specs.SystemFile.{TaskSet}
use Rattle.rt_history.specs.Legal.{legal}
use Rattle.rt_names.specs.TaskNames.{task_names}
use Rattle.rt_names.specs.TaskWords.{tasks_of}
use Rattle.rt_names.specs.declared.task_word.TaskWord.{TaskWord}
use Rattle.rt_chart.specs.declared.style.Style.{Style}
use Rattle.rt_drawing.specs.declared.window.Window.{Window}
use Rattle.rt_chart.specs.ChartText.{chart_text}
use Rattle.rt_opening.specs.Sets.{SpellsSet, SetMeans}
use Rattle.rt_opening.specs.declared.fault.SimFault.{SimFault}

-- in a set that the file spells, these words mean these tasks
abbrev pub MeanTasks : List ℕ → List TaskWord → List ℕ → Type 0
MeanTasks file words tasks = (s : TaskSet) → SpellsSet file s → tasks_of (task_names s) words ≡ Ok tasks

-- the picture, in this style, of a window of the legal history up to its end; the tasks that these words mean have no jobs over their period
abbrev pub ChartMeans : List ℕ → Admission → Window → Style → List TaskWord → Result (List ℕ) SimFault → Type 0
ChartMeans file admission w style words (Ok text) =
    (s : TaskSet) × SpellsSet file s × (load_fault_under admission s ≡ None)
    × (tasks : List ℕ) × (tasks_of (task_names s) words ≡ Ok tasks) × (text ≡ chart_text w style tasks s (legal s w.to))
ChartMeans file admission w style words (Err fault) = SetMeans admission (λ _. []) file (Err fault)
