-- The job that the coming record finishes, from what a report keeps.
use Rattle.std.specs.Prelude.{ℕ, if◌then◌else◌, slice_get, Option, Some, None}
use Rattle.std.specs.Option.{option_and_then}
use Rattle.rt_history.specs.declared.record.AttemptOutcome.{AttemptOutcome}
use Rattle.rt_history.specs.declared.record.Entry.{Entry}
use Rattle.rt_history.specs.declared.record.Entry.TheVariants.{Busy, Idle}
use Rattle.rt_history.specs.Job.{ends_job}
use Rattle.rt_laws.specs.Work.{gone_on, finished_at}
use Rattle.rt_report.specs.declared.finished_job.FinishedJob.{FinishedJob}
use Rattle.rt_report.specs.JobLines.{finished_job}
use Rattle.rt_report.specs.Standing.{TaskReport, ReportState}

-- the open job, where this record of tick u is its last
abbrev pub closing : ℕ → AttemptOutcome → TaskReport → FinishedJob
closing u o x = finished_job x.row.task x.serving.account.p x.row.jobs (finished_at u (gone_on (u, o) x.open_job))

abbrev pub finishing : ℕ → AttemptOutcome → TaskReport → Option FinishedJob
finishing u o x = if ends_job o then Some (closing u o x) else None

abbrev pub finishing_by : Entry → ReportState → Option FinishedJob
finishing_by (Busy t a) r = option_and_then (finishing r.tick a.outcome) (slice_get r.tasks a.task)
finishing_by (Idle t n) r = None
