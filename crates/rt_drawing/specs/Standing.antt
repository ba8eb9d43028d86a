-- What is kept of a task after its own part of a history, while it is drawn.
use Rattle.std.specs.Prelude.{ℕ, ◌+◌, ◌-◌, max, Option, unwrap_or, List, ◌++◌}
use Rattle.std.specs.List.{flat_map}
use Rattle.std.specs.Option.{option_or}
use Rattle.rt_admit.specs.declared.params.Params.{Params}
use Rattle.rt_image.specs.SystemFile.{SetTask}
use Rattle.rt_history.specs.declared.record.AttemptOutcome.{AttemptOutcome}
use Rattle.rt_history.specs.Admitted.{params_in}
use Rattle.rt_history.specs.Serving.{Serving, first_serving, due}
use Rattle.rt_history.specs.OwnPart.{serving_after}
use Rattle.rt_names.specs.TaskName.{task_name}
use Rattle.rt_drawing.specs.declared.job.Job.{Job}
use Rattle.rt_drawing.specs.declared.mark.Mark.{Mark}
use Rattle.rt_drawing.specs.declared.miss.Miss.{Miss}
use Rattle.rt_drawing.specs.declared.stretch.Stretch.{Stretch}
use Rattle.rt_drawing.specs.declared.window.Window.{Window}
use Rattle.rt_drawing.specs.Jobs.{first_job, job_after}
use Rattle.rt_drawing.specs.Waits.{behind, Turn, turn, turns, turn_waits, last_wait}
use Rattle.rt_drawing.specs.Stretches.{stretches, shown_ticks}
use Rattle.rt_drawing.specs.Marks.{record_marks, woken_marks}
use Rattle.rt_drawing.specs.Budgets.{told_budget}
use Rattle.rt_drawing.specs.Misses.{miss_by, told_miss, shown_miss}
use Rattle.rt_drawing.specs.Drawing.{Drawing, in_window}

-- what is kept of a task: its name, its parameters, how many ticks its responses may take, its account and its mode without the wakes since its last
-- record, its budget at the begin of the picture once that is told, its open job, the tick behind its last record, what is drawn so far, and the
-- first deadline that it missed up to that record
pub record TaskDrawing : Type 0 where
  pub name : List ℕ
  pub params : Params
  pub allowed : ℕ
  pub serving : Serving
  pub budget : Option ℕ
  pub job : Job
  pub behind : ℕ
  pub waits : List Stretch
  pub stretches : List Stretch
  pub marks : List Mark
  pub miss : Option Miss

-- of task i, from its own part alone
abbrev pub task_drawing : Window → ℕ → ℕ → SetTask → List (ℕ × AttemptOutcome) → TaskDrawing
task_drawing w allowed i s own = record {
  name = task_name i s.object;
  params = params_in s;
  allowed = allowed;
  serving = serving_after (first_serving s) own;
  budget = told_budget w.from (first_serving s) own;
  job = job_after (first_job s) own;
  behind = behind 0 own;
  waits = flat_map (turn_waits w) (turns allowed s own);
  stretches = stretches (shown_ticks w (turns allowed s own));
  marks = in_window w (record_marks s own);
  miss = told_miss 0 (first_serving s) own;
}

-- the first tick of its open job that is over the period
abbrev pub over_from : TaskDrawing → ℕ
over_from x = x.job.release + x.allowed

-- the tick from which on that waits for its next tick
abbrev pub since : TaskDrawing → ℕ
since x = max x.behind x.job.release

-- its turn, if it has one at tick u
abbrev pub next_turn : ℕ → TaskDrawing → Turn
next_turn u x = turn x.allowed x.job x.behind u

-- what is drawn of it in the end: the wakes up to the end of the picture are applied
abbrev pub finished : Window → ℕ → TaskDrawing → Drawing
finished w i x = record {
  task = i;
  name = x.name;
  budget = unwrap_or x.budget (due w.from x.serving).account.q;
  period = x.params.period;
  waits = x.waits ++ last_wait w (due w.to x.serving).mode (next_turn w.to x);
  stretches = x.stretches;
  marks = x.marks ++ in_window w (woken_marks w.to x.serving);
  miss = shown_miss w (option_or x.miss (miss_by x.behind (w.to - 1) x.serving));
  stands = (due w.to x.serving).mode;
}
