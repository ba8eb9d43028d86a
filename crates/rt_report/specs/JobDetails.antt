-- What a detailed list tells of a job beside its line, and of the jobs that aren't finished (Liu and Layland 1973).
use Rattle.std.specs.Prelude.{ℕ, ◌+◌, ◌-◌, if◌then◌else◌, List, [], ◌∷◌, ◌++◌, length, take, slice_get, Option, Some, None}
use Rattle.std.specs.List.{flat_map, enumerate_from}
use Rattle.std.specs.Option.{option_map_or}
use Rattle.rt_server.specs.Account.{Account}
use Rattle.rt_server.specs.Arrival.{woken}
use Rattle.rt_image.specs.SystemFile.{SetTask, TaskSet}
use Rattle.rt_history.specs.declared.mode.Mode.{Mode}
use Rattle.rt_history.specs.declared.mode.Mode.TheVariants.{Ended}
use Rattle.rt_history.specs.declared.record.AttemptOutcome.{AttemptOutcome}
use Rattle.rt_history.specs.declared.record.Record.{Record}
use Rattle.rt_history.specs.declared.record.Record.TheVariants.{Idle, Busy}
use Rattle.rt_history.specs.Serving.{first_serving}
use Rattle.rt_history.specs.OwnPart.{own, serving_after}
use Rattle.rt_history.specs.Job.{Release, release_of, budget_of, account_after, ends_job, job_of, jobs}
use Rattle.rt_laws.specs.OpenJob.{open_job}
use Rattle.rt_report.specs.declared.detailed_job.JobDetail.{JobDetail}
use Rattle.rt_report.specs.declared.detailed_job.DetailedJob.{DetailedJob}
use Rattle.rt_report.specs.declared.detailed_job.UnfinishedJob.{UnfinishedJob}
use Rattle.rt_report.specs.JobLines.{finished_job}

-- an own part, cut behind its last sleep or end: the records of the finished jobs, and those of the open one
pub record Cut : Type 0 where
  pub before : List (ℕ × AttemptOutcome)
  pub piece : List (ℕ × AttemptOutcome)

-- of one that goes on after the records `before` of finished jobs and `piece` of the open one
abbrev pub cut_after : List (ℕ × AttemptOutcome) → List (ℕ × AttemptOutcome) → List (ℕ × AttemptOutcome) → Cut
cut_after before piece [] = record { before = before; piece = piece }
cut_after before piece (e ∷ es) = if ends_job e.1 then cut_after (before ++ (piece ++ e ∷ [])) [] es else cut_after before (piece ++ e ∷ []) es

abbrev pub cut : List (ℕ × AttemptOutcome) → Cut
cut own = cut_after [] [] own

-- one record more of the open job
abbrev pub longer : ℕ × AttemptOutcome → Cut → Cut
longer e c = record { before = c.before; piece = c.piece ++ e ∷ [] }

-- ---- what is told of a job beside its line

-- the tick of the first of its records, if it has one
abbrev pub begin_of : List (ℕ × AttemptOutcome) → Option ℕ
begin_of [] = None
begin_of (e ∷ es) = Some e.0

-- the end of the last of these records, or u where there is none
abbrev pub end_of : ℕ → List (ℕ × AttemptOutcome) → ℕ
end_of u [] = u
end_of u (e ∷ es) = end_of (e.0 + 1) es

-- how many ticks between the first and the last of them were of other tasks or idle
abbrev pub interrupted : List (ℕ × AttemptOutcome) → ℕ
interrupted [] = 0
interrupted (e ∷ es) = (end_of (e.0 + 1) es - e.0) - length (e ∷ es)

-- the account from a release on: a task that sleeps until then wakes
abbrev pub account_from : Release → Account → Account
account_from r a = if r.awaited then woken r.tick a else a

-- of the open job of an own part that is cut so
abbrev pub detail_of : SetTask → Cut → JobDetail
detail_of s c = record {
  start = begin_of c.piece;
  budget = budget_of s (release_of s c.before) c.before;
  deadline = (account_from (release_of s c.before) (account_after s c.before)).d;
  interrupted = interrupted c.piece;
}

-- ---- finished jobs

-- the job that this record of task i finishes, after those before it
abbrev pub detailed_job : ℕ → SetTask → List (ℕ × AttemptOutcome) → ℕ × AttemptOutcome → DetailedJob
detailed_job i s before e = record {
  job = finished_job i s.period (length (jobs s before)) (job_of s (cut before).before ((cut before).piece ++ e ∷ []) e.0);
  detail = detail_of s (longer e (cut before));
  period = s.period;
}

abbrev pub detailed_in : ℕ → SetTask → List (ℕ × AttemptOutcome) → ℕ × AttemptOutcome → List DetailedJob
detailed_in i s before e = if ends_job e.1 then detailed_job i s before e ∷ [] else []

-- the job that the record of tick u finishes, from the history before it
abbrev pub detailed_by : TaskSet → List Record → ℕ × Record → List DetailedJob
detailed_by set history (u, Idle) = []
detailed_by set history (u, Busy a) = option_map_or (λ s. detailed_in a.task s (own a.task (take u history)) (u, a.outcome)) (slice_get set.tasks a.task) []

-- those of all tasks, in the order in which they finish
abbrev pub detailed_jobs : TaskSet → List Record → List DetailedJob
detailed_jobs set history = flat_map (detailed_by set history) (enumerate_from 0 history)

-- ---- jobs that aren't finished

-- the open job of task i
abbrev pub unfinished_job : ℕ → SetTask → List (ℕ × AttemptOutcome) → UnfinishedJob
unfinished_job i s own = record {
  task = i;
  number = length (jobs s own);
  release = (open_job s own).release.tick;
  ticks = (open_job s own).ticks;
  fresh = (open_job s own).fresh;
  calm = (open_job s own).calm;
  detail = detail_of s (cut own);
  period = s.period;
}

-- which a task that has ended doesn't have
abbrev pub unless_ended : Mode → UnfinishedJob → List UnfinishedJob
unless_ended Ended j = []
unless_ended mode j = j ∷ []

abbrev pub unfinished_of : ℕ → SetTask → List (ℕ × AttemptOutcome) → List UnfinishedJob
unfinished_of i s own = unless_ended (serving_after (first_serving s) own).mode (unfinished_job i s own)

-- those of all tasks, in order of number
abbrev pub unfinished_jobs : TaskSet → List Record → List UnfinishedJob
unfinished_jobs set history = flat_map (λ n. unfinished_of n.0 n.1 (own n.0 history)) (enumerate_from 0 set.tasks)
