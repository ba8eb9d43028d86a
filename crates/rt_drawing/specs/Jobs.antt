-- The jobs of a task as its bars tell them, record after record (Liu and Layland 1973).
use Rattle.std.specs.Prelude.{ℕ, ◌+◌, List, [], ◌∷◌}
use Rattle.rt_image.specs.SystemFile.{SetTask}
use Rattle.rt_history.specs.declared.record.AttemptOutcome.{AttemptOutcome}
use Rattle.rt_history.specs.declared.record.AttemptOutcome.TheVariants.{End, Sleep}
use Rattle.rt_drawing.specs.declared.job.Job.{Job}

-- the first job is released at the start tick
abbrev pub first_job : SetTask → Job
first_job s = record { number = 0; release = s.start; ticks = 0 }

-- n ticks later of the same job
abbrev pub ticked : ℕ → Job → Job
ticked n j = record { number = j.number; release = j.release; ticks = j.ticks + n }

-- a sleep and an end finish it: the next is released where the sleep ends
abbrev pub job_by : Job → AttemptOutcome → Job
job_by j (Sleep w) = record { number = j.number + 1; release = w; ticks = 0 }
job_by j End = record { number = j.number + 1; release = j.release; ticks = 0 }
job_by j _ = ticked 1 j

-- the job that is open behind these records
abbrev pub job_after : Job → List (ℕ × AttemptOutcome) → Job
job_after j [] = j
job_after j (e ∷ es) = job_after (job_by j e.1) es
