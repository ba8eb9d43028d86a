-- The open job of each task: how it goes on with the legal history, and what it is after t ticks of it.
use Rattle.std.specs.Prelude.{ℕ, ◌+◌, ◌-◌, ◌^◌, min, if◌then◌else◌, List, [], ◌∷◌, length, map, drop, slice_get, slice_set}
use Rattle.std.specs.List.{enumerate_from}
use Rattle.std.specs.Option.{option_map_or}
use Rattle.rt_image.specs.SystemFile.{SetTask, TaskSet}
use Rattle.rt_history.specs.declared.mode.Mode.{Mode}
use Rattle.rt_history.specs.declared.mode.Mode.TheVariants.{Asleep}
use Rattle.rt_history.specs.declared.record.AttemptOutcome.{AttemptOutcome}
use Rattle.rt_history.specs.declared.record.AttemptOutcome.TheVariants.{End, Sleep}
use Rattle.rt_history.specs.declared.record.Record.{Record}
use Rattle.rt_history.specs.declared.record.Record.TheVariants.{Busy, Idle}
use Rattle.rt_history.specs.OwnPart.{TaskState, own}
use Rattle.rt_history.specs.Job.{ends_job, jobs, release_of}
use Rattle.rt_history.specs.MachineState.{MachineState}
use Rattle.rt_history.specs.Legal.{legal, state_at}
use Rattle.rt_walk.specs.declared.jobs.OpenJob.{OpenJob}

-- a task's job after its own records: how many are finished, and its release
abbrev pub open_job : SetTask → List (ℕ × AttemptOutcome) → OpenJob
open_job s part = record { number = length (jobs s part); release = (release_of s part).tick }

-- those of tasks of which the first is task i, after a history
abbrev pub open_from : List Record → ℕ → List SetTask → List OpenJob
open_from history i tasks = map (λ n. open_job n.1 (own n.0 history)) (enumerate_from i tasks)

-- and of all tasks of a set, after t ticks of the legal history
unfoldable pub jobs_at : TaskSet → ℕ → List OpenJob
jobs_at set t = open_from (legal set t) 0 set.tasks

-- how a machine stands, with the jobs of its tasks
pub record Stand : Type 0 where
  pub machine : MachineState
  pub jobs : List OpenJob

-- a record that ends a job leaves the next one, which a sleep releases at its tick
abbrev pub job_by : OpenJob → AttemptOutcome → OpenJob
job_by job (Sleep w) = record { number = min (job.number + 1) (2 ^ 64 - 1); release = w }
job_by job End = record { number = min (job.number + 1) (2 ^ 64 - 1); release = job.release }
job_by job outcome = job

abbrev pub opened_at : List OpenJob → ℕ → AttemptOutcome → List OpenJob
opened_at jobs i outcome = option_map_or (λ job. slice_set jobs i (job_by job outcome)) (slice_get jobs i) jobs

abbrev pub opened_by : List OpenJob → Record → List OpenJob
opened_by jobs (Busy attempt) = if ends_job attempt.outcome then opened_at jobs attempt.task attempt.outcome else jobs
opened_by jobs Idle = jobs

-- and so on, record after record
abbrev pub jobs_by : List OpenJob → List Record → List OpenJob
jobs_by jobs [] = jobs
jobs_by jobs (r ∷ rs) = jobs_by (opened_by jobs r) rs

-- the jobs with which `begin` stands, taken on by the legal history from its tick up to tick t
unfoldable pub jobs_since : Stand → TaskSet → ℕ → List OpenJob
jobs_since begin set t = jobs_by begin.jobs (drop begin.machine.tick (legal set t))

abbrev pub stand_at : Stand → TaskSet → ℕ → Stand
stand_at begin set t = record { machine = state_at set t; jobs = jobs_since begin set t }

-- The jobs with which a session of a machine begins: each is its task's first. A task that is asleep is released as it wakes.
abbrev pub first_release : ℕ → Mode → ℕ
first_release t (Asleep w) = w
first_release t mode = t

abbrev pub first_job : ℕ → TaskState → OpenJob
first_job t s = record { number = 0; release = first_release t s.serving.mode }

abbrev pub first_jobs : MachineState → List OpenJob
first_jobs m = map (first_job m.tick) m.tasks
