-- Which failures are seen in what a report keeps of a task.
use Rattle.std.specs.Prelude.{ℕ, ◌||◌, nat_lt, Bool, false, slice_get}
use Rattle.std.specs.Option.{option_map_or}
use Rattle.rt_report.specs.declared.failing.Failing.{Failing}
use Rattle.rt_report.specs.declared.failing.Failing.TheVariants as failing
use Rattle.rt_report.specs.Failures.{has_faulted, is_overdue, released_by}
use Rattle.rt_report.specs.Standing.{TaskReport, ReportState}

-- at tick t, where a write was refused since the output had no room for it, or none was
abbrev pub seen : Failing → ℕ → Bool → TaskReport → Bool
seen failing.Fault t full x = has_faulted x.serving.mode
seen failing.Over t full x = nat_lt 0 x.counts.overtimes || is_overdue t x.serving.account.p x.serving.mode x.open_job.release.tick
seen failing.Soft t full x = nat_lt x.row.hard x.row.jobs
seen failing.Refused t full x = nat_lt 0 x.counts.refused
seen failing.Few t full x = nat_lt x.row.jobs (released_by x.start x.serving.account.p t)
seen failing.Lost t full x = full

-- against task i, if it is there
abbrev pub seen_at : Failing → Bool → ReportState → ℕ → Bool
seen_at what full r i = option_map_or (seen what r.tick full) (slice_get r.tasks i) false
