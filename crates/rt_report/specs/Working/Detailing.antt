-- The details of a job, from what a report keeps.
use Rattle.std.specs.Prelude.{ℕ, ◌-◌, ◌==◌, if◌then◌else◌, List, slice_get, Option, Some, None}
use Rattle.std.specs.List.{flat_map}
use Rattle.std.specs.Option.{option_and_then}
use Rattle.rt_history.specs.declared.record.AttemptOutcome.{AttemptOutcome}
use Rattle.rt_history.specs.declared.record.Entry.{Entry}
use Rattle.rt_history.specs.declared.record.Entry.TheVariants.{Busy, Idle}
use Rattle.rt_history.specs.Job.{ends_job}
use Rattle.rt_laws.specs.OpenJob.{OpenJob}
use Rattle.rt_laws.specs.Work.{gone_on}
use Rattle.rt_report.specs.declared.detailed_job.JobDetail.{JobDetail}
use Rattle.rt_report.specs.declared.detailed_job.DetailedJob.{DetailedJob}
use Rattle.rt_report.specs.declared.detailed_job.UnfinishedJob.{UnfinishedJob}
use Rattle.rt_report.specs.JobDetails.{unless_ended}
use Rattle.rt_report.specs.Standing.{OpenSpan, TaskReport, ReportState}
use Rattle.rt_report.specs.Working.Tallied.{spanned}
use Rattle.rt_report.specs.Working.Finishing.{closing}

-- of a job with this span
abbrev pub detail_in : OpenJob → OpenSpan → JobDetail
detail_in o p = record {
  start = if o.ticks == 0 then None else Some p.first;
  budget = o.budget;
  deadline = p.deadline;
  interrupted = (p.end - p.first) - o.ticks;
}

-- the open job, where this record of tick u is its last
abbrev pub detailing_one : ℕ → AttemptOutcome → TaskReport → DetailedJob
detailing_one u o x = record {
  job = closing u o x;
  detail = detail_in (gone_on (u, o) x.open_job) (spanned u x.open_job.ticks x.span);
  period = x.serving.account.p;
}

abbrev pub detailing : ℕ → AttemptOutcome → TaskReport → Option DetailedJob
detailing u o x = if ends_job o then Some (detailing_one u o x) else None

abbrev pub detailing_by : Entry → ReportState → Option DetailedJob
detailing_by (Busy t a) r = option_and_then (detailing r.tick a.outcome) (slice_get r.tasks a.task)
detailing_by (Idle t n) r = None

-- the open job of a task, unless it has ended
abbrev pub unfinished_at : TaskReport → List UnfinishedJob
unfinished_at x = unless_ended x.serving.mode (record {
  task = x.row.task;
  number = x.row.jobs;
  release = x.open_job.release.tick;
  ticks = x.open_job.ticks;
  fresh = x.open_job.fresh;
  calm = x.open_job.calm;
  detail = detail_in x.open_job x.span;
  period = x.serving.account.p;
})

abbrev pub all_unfinished : List TaskReport → List UnfinishedJob
all_unfinished xs = flat_map unfinished_at xs
