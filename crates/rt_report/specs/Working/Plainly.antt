-- A report over plain ticks of one task.
use Rattle.std.specs.Prelude.{ℕ, zero, suc, ◌+◌, ◌==◌, if◌then◌else◌, List, slice_get, slice_set}
use Rattle.std.specs.Option.{option_map_or}
use Rattle.rt_server.specs.Recharge.{spent_for, used_up_for}
use Rattle.rt_history.specs.declared.record.AttemptOutcome.TheVariants.{Next}
use Rattle.rt_report.specs.Standing.{OpenSpan, TaskReport, ReportState}
use Rattle.rt_report.specs.Working.Tallied.{tallied}

-- n of them from tick u on, one by one
unfoldable pub plain_for : ℕ → ℕ → TaskReport → TaskReport
plain_for u zero x = x
plain_for u (suc n) x = tallied (u + n) Next (plain_for u n x)

-- the n records from tick u on, of an open job that has so many before them
abbrev pub spanned_for : ℕ → ℕ → ℕ → OpenSpan → OpenSpan
spanned_for u n ticks p = if n == 0 then p else record { first = if ticks == 0 then u else p.first; end = u + n; deadline = p.deadline }

-- n of them from tick u on of a task that is active, at once
abbrev pub plainly : ℕ → ℕ → TaskReport → TaskReport
plainly u n x = record x {
  serving = record { account = spent_for n x.serving.account; mode = x.serving.mode };
  open_job = record x.open_job { ticks = x.open_job.ticks + n };
  span = spanned_for u n x.open_job.ticks x.span;
  row = record x.row { ticks = x.row.ticks + n };
  counts = record x.counts { postponements = x.counts.postponements + used_up_for n x.serving.account };
}

-- n of them of task i
abbrev pub plain_at : ℕ → ℕ → List TaskReport → ℕ → List TaskReport
plain_at u n xs i = option_map_or (λ x. slice_set xs i (plain_for u n x)) (slice_get xs i) xs

abbrev pub added_plain : ℕ → ℕ → ReportState → ReportState
added_plain i n r = record { tick = r.tick + n; idle = r.idle; tasks = plain_at r.tick n r.tasks i }
