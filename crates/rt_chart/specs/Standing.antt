-- The state of a picture after a history, while it is drawn.
use Rattle.std.specs.Prelude.{ℕ, List, map}
use Rattle.std.specs.List.{enumerate_from}
use Rattle.rt_image.specs.SystemFile.{TaskSet}
use Rattle.rt_history.specs.OwnPart.{own}
use Rattle.rt_history.specs.Legal.{legal}
use Rattle.rt_drawing.specs.declared.window.Window.{Window}
use Rattle.rt_drawing.specs.Drawing.{Drawing, allowed_of}
use Rattle.rt_drawing.specs.Standing.{TaskDrawing, task_drawing, finished}
use Rattle.rt_chart.specs.declared.style.Style.{Style}

-- what is drawn of each task in the end
abbrev pub all_finished : Window → List TaskDrawing → List Drawing
all_finished w xs = map (λ n. finished w n.0 n.1) (enumerate_from 0 xs)

-- the ticks that a picture shows, how it looks, the ticks that were told, and what is kept of each task
pub record ChartState : Type 0 where
  pub window : Window
  pub style : Style
  pub tick : ℕ
  pub tasks : List TaskDrawing

-- a picture of this set, of which these tasks are excepted, stands so after the t ticks of the legal history
unfoldable pub chart_at : Window → Style → List ℕ → TaskSet → ℕ → ChartState
chart_at w style except set t = record {
  window = w;
  style = style;
  tick = t;
  tasks = map (λ n. task_drawing w (allowed_of except n.0 n.1) n.0 n.1 (own n.0 (legal set t))) (enumerate_from 0 set.tasks);
}
