-- The finished jobs of a whole history (Liu and Layland 1973), in the order in which they finish.
use Rattle.std.specs.Prelude.{ℕ, ◌==◌, List, [], map, slice_get}
use Rattle.std.specs.List.{filter, flat_map, enumerate_from}
use Rattle.std.specs.Option.{option_map_or}
use Rattle.rt_image.specs.SystemFile.{SetTask, TaskSet}
use Rattle.rt_history.specs.declared.record.Record.{Record}
use Rattle.rt_history.specs.declared.record.Record.TheVariants.{Idle, Busy}
use Rattle.rt_history.specs.OwnPart.{own}
use Rattle.rt_history.specs.Job.{Job, response, is_hard, is_late, jobs}
use Rattle.rt_report.specs.declared.finished_job.FinishedJob.{FinishedJob}

-- job k of task i, whose server has this period
abbrev pub finished_job : ℕ → ℕ → ℕ → Job → FinishedJob
finished_job i period k j = record {
  task = i;
  number = k;
  release = j.release;
  finish = j.finish;
  response = response j;
  ticks = j.ticks;
  fresh = j.fresh;
  calm = j.calm;
  hard = is_hard j;
  late = is_late period j;
}

-- those of task i, numbered from 0
abbrev pub jobs_of : ℕ → SetTask → List Record → List FinishedJob
jobs_of i s history = map (λ n. finished_job i s.period n.0 n.1) (enumerate_from 0 (jobs s (own i history)))

-- those that the record of tick u finishes
abbrev pub finished_by : TaskSet → List Record → ℕ × Record → List FinishedJob
finished_by set history (u, Idle) = []
finished_by set history (u, Busy a) = option_map_or (λ s. filter (λ j. j.finish == u) (jobs_of a.task s history)) (slice_get set.tasks a.task) []

-- those of all tasks
abbrev pub finished_jobs : TaskSet → List Record → List FinishedJob
finished_jobs set history = flat_map (finished_by set history) (enumerate_from 0 history)
