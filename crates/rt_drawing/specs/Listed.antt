-- The open job of a task as a list of its jobs numbers it.
use Rattle.std.specs.Prelude.{ℕ, List, length}
use Rattle.rt_image.specs.SystemFile.{SetTask}
use Rattle.rt_history.specs.declared.record.AttemptOutcome.{AttemptOutcome}
use Rattle.rt_history.specs.Job.{release_of, jobs}
use Rattle.rt_laws.specs.OpenJob.{open_job}
use Rattle.rt_drawing.specs.declared.job.Job.{Job}

-- behind the records of the own part, in which the jobs before it are finished
abbrev pub listed_job : SetTask → List (ℕ × AttemptOutcome) → Job
listed_job s own = record { number = length (jobs s own); release = (release_of s own).tick; ticks = (open_job s own).ticks }
