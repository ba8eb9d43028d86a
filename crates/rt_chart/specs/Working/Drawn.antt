-- A picture over one entry.
use Rattle.std.specs.Prelude.{ℕ, ◌+◌, ◌≤◌, List, length, All, slice_get, slice_set}
use Rattle.std.specs.Option.{option_map_or}
use Rattle.rt_words.specs.Limits.{tick_limit}
use Rattle.rt_admit.specs.Limits.{task_limit}
use Rattle.rt_history.specs.declared.record.AttemptOutcome.{AttemptOutcome}
use Rattle.rt_history.specs.declared.record.Entry.{Entry}
use Rattle.rt_history.specs.declared.record.Entry.TheVariants.{Busy, Idle}
use Rattle.rt_drawing.specs.declared.window.Window.{Window}
use Rattle.rt_drawing.specs.Standing.{TaskDrawing}
use Rattle.rt_drawing.specs.Drawn.{drawn, drawn_for, IsSound}
use Rattle.rt_chart.specs.Standing.{ChartState}

abbrev pub drawn_at : Window → ℕ → AttemptOutcome → List TaskDrawing → ℕ → List TaskDrawing
drawn_at w u o xs i = option_map_or (λ x. slice_set xs i (drawn w u o x)) (slice_get xs i) xs

abbrev pub added : Entry → ChartState → ChartState
added (Busy t a) c = record { window = c.window; style = c.style; tick = c.tick + 1; tasks = drawn_at c.window c.tick a.outcome c.tasks a.task }
added (Idle t n) c = record { window = c.window; style = c.style; tick = c.tick + n; tasks = c.tasks }

-- n plain ticks of task i
abbrev pub plain_at : Window → ℕ → ℕ → List TaskDrawing → ℕ → List TaskDrawing
plain_at w u n xs i = option_map_or (λ x. slice_set xs i (drawn_for w u n x)) (slice_get xs i) xs

abbrev pub added_plain : ℕ → ℕ → ChartState → ChartState
added_plain i n c = record { window = c.window; style = c.style; tick = c.tick + n; tasks = plain_at c.window c.tick n c.tasks i }

-- what holds of what is kept of a picture: of each task at its tick
pub record IsSoundChart (c : ChartState) : Type 0 where
  pub limit : c.tick ≤ tick_limit
  pub count : length c.tasks ≤ task_limit
  pub tasks : All (IsSound c.tick) c.tasks
