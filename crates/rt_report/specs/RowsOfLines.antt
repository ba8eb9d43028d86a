-- The rows of a report, counted from the lines of the finished jobs and each task's ticks.
use Rattle.std.specs.Prelude.{ℕ, min, max, ◌==◌, List, length, map, count_by}
use Rattle.std.specs.List.{filter, reduce, enumerate_from}
use Rattle.rt_image.specs.SystemFile.{TaskSet}
use Rattle.rt_history.specs.declared.record.Record.{Record}
use Rattle.rt_history.specs.OwnPart.{own}
use Rattle.rt_report.specs.declared.finished_job.FinishedJob.{FinishedJob}
use Rattle.rt_report.specs.declared.row.Row.{Row}
use Rattle.rt_report.specs.JobLines.{finished_jobs}

-- the row of task i, which has executed so many ticks, from its lines
abbrev pub counted : ℕ → ℕ → List FinishedJob → Row
counted i ticks js = record {
  task = i;
  jobs = length js;
  ticks = ticks;
  least = reduce min (map (λ j. j.response) js);
  greatest = reduce max (map (λ j. j.response) js);
  hard = count_by (λ j. j.hard) js;
  late = count_by (λ j. j.late) js;
}

-- a row for each task of a set
abbrev pub rows_of_lines : TaskSet → List Record → List Row
rows_of_lines set history = map (λ n. counted n.0 (length (own n.0 history)) (filter (λ j. j.task == n.0) (finished_jobs set history))) (enumerate_from 0 set.tasks)
