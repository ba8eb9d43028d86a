-- What a picture shows of each task of a set.
use Rattle.std.specs.Prelude.{ℕ, ◌==◌, if◌then◌else◌, Option, List, map, filter}
use Rattle.std.specs.List.{enumerate_from, list_any}
use Rattle.rt_words.specs.Limits.{tick_limit}
use Rattle.rt_image.specs.SystemFile.{SetTask, TaskSet}
use Rattle.rt_history.specs.declared.mode.Mode.{Mode}
use Rattle.rt_history.specs.declared.record.Record.{Record}
use Rattle.rt_history.specs.OwnPart.{own, task_state}
use Rattle.rt_names.specs.TaskName.{task_name}
use Rattle.rt_drawing.specs.declared.mark.Mark.{Mark}
use Rattle.rt_drawing.specs.declared.miss.Miss.{Miss}
use Rattle.rt_drawing.specs.declared.stretch.Stretch.{Stretch}
use Rattle.rt_drawing.specs.declared.window.Window.{Window}
use Rattle.rt_drawing.specs.Windows.{is_in}
use Rattle.rt_drawing.specs.Waits.{turns, waits}
use Rattle.rt_drawing.specs.Stretches.{stretches, shown_ticks}
use Rattle.rt_drawing.specs.Marks.{marks_by}
use Rattle.rt_drawing.specs.Budgets.{budget_at}
use Rattle.rt_drawing.specs.Misses.{first_miss, shown_miss}

-- a task's number and its name, its budget at the begin of the picture and its period, when it waited and when it ran, what happened to it, the
-- first deadline that it missed, and how it stands behind the picture
pub record Drawing : Type 0 where
  pub task : ℕ
  pub name : List ℕ
  pub budget : ℕ
  pub period : ℕ
  pub waits : List Stretch
  pub stretches : List Stretch
  pub marks : List Mark
  pub miss : Option Miss
  pub stands : Mode

abbrev pub in_window : Window → List Mark → List Mark
in_window w ms = filter (λ m. is_in w m.tick) ms

-- how many ticks a response may take before it is over: a period; of a task that is excepted, as many as there are, so that none is
abbrev pub allowed_of : List ℕ → ℕ → SetTask → ℕ
allowed_of except i s = if list_any (λ k. k == i) except then tick_limit else s.period

-- task i of a set whose responses may take so many ticks, after a history that ends with the window
abbrev pub drawing_of : Window → ℕ → List Record → ℕ → SetTask → Drawing
drawing_of w allowed history i s = record {
  task = i;
  name = task_name i s.object;
  budget = budget_at w.from s (own i history);
  period = s.period;
  waits = waits w allowed s (own i history);
  stretches = stretches (shown_ticks w (turns allowed s (own i history)));
  marks = in_window w (marks_by w.to s (own i history));
  miss = shown_miss w (first_miss w.to s (own i history));
  stands = (task_state w.to history i s).serving.mode;
}

abbrev pub drawings : Window → List ℕ → TaskSet → List Record → List Drawing
drawings w except set history = map (λ n. drawing_of w (allowed_of except n.0 n.1) history n.0 n.1) (enumerate_from 0 set.tasks)
