-- The rows of a report on a whole history: one for each task, of its jobs (Liu and Layland 1973), and the idle ticks.
use Rattle.std.specs.Prelude.{ℕ, min, max, Bool, true, false, List, length, map, count_by}
use Rattle.std.specs.List.{reduce, enumerate_from}
use Rattle.rt_image.specs.SystemFile.{SetTask, TaskSet}
use Rattle.rt_history.specs.declared.record.AttemptOutcome.{AttemptOutcome}
use Rattle.rt_history.specs.declared.record.Record.{Record}
use Rattle.rt_history.specs.declared.record.Record.TheVariants.{Idle, Busy}
use Rattle.rt_history.specs.OwnPart.{own}
use Rattle.rt_history.specs.Job.{Job, response, is_hard, is_late, jobs}
use Rattle.rt_report.specs.declared.row.Row.{Row}

-- the row of task i with these finished jobs after so many own records
abbrev pub row_with : ℕ → SetTask → ℕ → List Job → Row
row_with i s ticks js = record {
  task = i;
  jobs = length js;
  ticks = ticks;
  least = reduce min (map response js);
  greatest = reduce max (map response js);
  hard = count_by is_hard js;
  late = count_by (is_late s.period) js;
}

-- the row of task i, from its own part alone
abbrev pub row_of : ℕ → SetTask → List (ℕ × AttemptOutcome) → Row
row_of i s records = row_with i s (length records) (jobs s records)

-- a row for each task of a set
abbrev pub rows : TaskSet → List Record → List Row
rows set history = map (λ n. row_of n.0 n.1 (own n.0 history)) (enumerate_from 0 set.tasks)

abbrev pub is_idle : Record → Bool
is_idle Idle = true
is_idle (Busy a) = false

-- how many ticks were idle
abbrev pub idle_ticks : List Record → ℕ
idle_ticks history = count_by is_idle history
