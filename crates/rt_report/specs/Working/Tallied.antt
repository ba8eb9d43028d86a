-- A report over one entry.
use Rattle.std.specs.Prelude.{ℕ, ◌+◌, ◌*◌, ◌^◌, ◌<◌, ◌≤◌, ◌==◌, min, max, Bool, true, cond, if◌then◌else◌, List, length, map, All, slice_get, slice_set, Option, Some, None}
use Rattle.std.specs.List.{enumerate_from}
use Rattle.std.specs.Option.{option_map_or}
use Rattle.rt_words.specs.Limits.{tick_limit}
use Rattle.rt_admit.specs.declared.params.Params.{Params}
use Rattle.rt_server.specs.Account.{Account, begun}
use Rattle.rt_history.specs.declared.record.AttemptOutcome.{AttemptOutcome}
use Rattle.rt_history.specs.declared.record.Entry.{Entry}
use Rattle.rt_history.specs.declared.record.Entry.TheVariants.{Busy, Idle}
use Rattle.rt_history.specs.Serving.{Serving, unwoken, due, after}
use Rattle.rt_history.specs.Working.Bounded.{IsBounded, taken}
use Rattle.rt_history.specs.Job.{Release, response, is_hard, is_late, ends_job, release_by}
use Rattle.rt_laws.specs.Work.{begun_at, gone_on, finished_at}
use Rattle.rt_report.specs.declared.row.Row.{Row}
use Rattle.rt_report.specs.declared.wide_row.WideCounts.{WideCounts}
use Rattle.rt_report.specs.WideRows.{postpones, is_yield, is_grant, is_refusal, is_over, with_wake}
use Rattle.rt_report.specs.JobDetails.{account_from}
use Rattle.rt_report.specs.Standing.{OpenSpan, TaskReport, ReportState}

-- ---- at first

abbrev pub first_row : ℕ → Row
first_row i = record { task = i; jobs = 0; ticks = 0; least = None; greatest = None; hard = 0; late = 0 }

abbrev pub no_counts : WideCounts
no_counts = record {
  most_ticks = None;
  overtimes = 0;
  fresh_wakes = 0;
  kept_wakes = 0;
  postponements = 0;
  yields = 0;
  granted = 0;
  refused = 0;
  response = 0;
}

-- no record yet of an open job of this release, the server's account being what the records before have left
abbrev pub span_at : Account → Release → OpenSpan
span_at a r = record { first = 0; end = 0; deadline = (account_from r a).d }

abbrev pub first_report : ℕ → Params → TaskReport
first_report i p = record {
  serving = unwoken p.budget p.period p.start;
  open_job = begun_at (begun p.budget p.period) (record { tick = p.start; awaited = true });
  span = span_at (begun p.budget p.period) (record { tick = p.start; awaited = true });
  row = first_row i;
  counts = no_counts;
  start = p.start;
}

abbrev pub first_reports : List Params → List TaskReport
first_reports ps = map (λ n. first_report n.0 n.1) (enumerate_from 0 ps)

-- ---- one record more of a task

-- what f makes of all so far and one more
abbrev pub picked : (ℕ → ℕ → ℕ) → Option ℕ → ℕ → ℕ
picked f None x = x
picked f (Some y) x = f y x

abbrev pub with_tick : Row → Row
with_tick r = record r { ticks = r.ticks + 1 }

abbrev pub with_job : ℕ → Bool → Bool → Row → Row
with_job time hard late r = record r {
  jobs = r.jobs + 1;
  least = Some (picked min r.least time);
  greatest = Some (picked max r.greatest time);
  hard = r.hard + cond hard 1 0;
  late = r.late + cond late 1 0;
}

-- what is told beside the row: a charge of this account, a yield or a reserve where the record is one, and a finished job
abbrev pub with_charge : AttemptOutcome → Account → WideCounts → WideCounts
with_charge o a c = record c { postponements = c.postponements + cond (postpones o a) 1 0 }

abbrev pub with_outcome : AttemptOutcome → WideCounts → WideCounts
with_outcome o c = record c {
  yields = c.yields + cond (is_yield o) 1 0;
  granted = c.granted + cond (is_grant o) 1 0;
  refused = c.refused + cond (is_refusal o) 1 0;
}

abbrev pub with_finished : ℕ → ℕ → Bool → WideCounts → WideCounts
with_finished ticks time over c = record c {
  most_ticks = Some (picked max c.most_ticks ticks);
  overtimes = c.overtimes + cond over 1 0;
  response = c.response + time;
}

-- a record that the server takes as k, the task standing so before it
abbrev pub with_record : ℕ → AttemptOutcome → Serving → WideCounts → WideCounts
with_record u k s c = with_outcome k (with_charge k (due u s).account (with_wake u s c))

-- the record of tick u, of an open job that has so many before it
abbrev pub spanned : ℕ → ℕ → OpenSpan → OpenSpan
spanned u ticks p = record { first = if ticks == 0 then u else p.first; end = u + 1; deadline = p.deadline }

-- the open job is finished at tick u, and one of this release is open
abbrev pub closed : ℕ → Release → TaskReport → TaskReport
closed u r x = record x {
  open_job = begun_at x.serving.account r;
  span = span_at x.serving.account r;
  row = with_job (response (finished_at u x.open_job)) (is_hard (finished_at u x.open_job))
      (is_late x.serving.account.p (finished_at u x.open_job)) x.row;
  counts = with_finished x.open_job.ticks (response (finished_at u x.open_job)) (is_over x.serving.account.p (finished_at u x.open_job)) x.counts;
}

abbrev pub left : ℕ → AttemptOutcome → TaskReport → TaskReport
left u o x = if ends_job o then closed u (release_by x.open_job.release u o) x else x

-- the wakes up to tick u are applied
abbrev pub awoken : ℕ → TaskReport → TaskReport
awoken u x = record x { serving = due u x.serving; counts = with_wake u x.serving x.counts }

-- the record is of the open job
abbrev pub gone : ℕ → AttemptOutcome → TaskReport → TaskReport
gone u o x = record x {
  serving = after u (taken o (due u x.serving).account) (due u x.serving).account;
  open_job = gone_on (u, o) x.open_job;
  span = spanned u x.open_job.ticks x.span;
  row = with_tick x.row;
  counts = with_record u (taken o (due u x.serving).account) x.serving x.counts;
}

abbrev pub tallied : ℕ → AttemptOutcome → TaskReport → TaskReport
tallied u o x = left u o (gone u o x)

-- ---- one entry more

abbrev pub tallied_at : ℕ → AttemptOutcome → List TaskReport → ℕ → List TaskReport
tallied_at u o xs i = option_map_or (λ x. slice_set xs i (tallied u o x)) (slice_get xs i) xs

abbrev pub added : Entry → ReportState → ReportState
added (Busy t a) r = record { tick = r.tick + 1; idle = r.idle; tasks = tallied_at r.tick a.outcome r.tasks a.task }
added (Idle t n) r = record { tick = r.tick + n; idle = r.idle + n; tasks = r.tasks }

-- ---- what holds of each report

-- of what is kept of a task at tick t: the account is bounded, and no number is over the tick, nor is the end of the span; the sum of the
-- responses, of which each is at most the tick, is at most its square
pub record IsSound (t : ℕ) (x : TaskReport) : Type 0 where
  pub account : IsBounded t x.serving.account
  pub open_ticks : x.open_job.ticks ≤ t
  pub end : x.span.end ≤ t
  pub jobs : x.row.jobs ≤ t
  pub ticks : x.row.ticks ≤ t
  pub hard : x.row.hard ≤ t
  pub late : x.row.late ≤ t
  pub overtimes : x.counts.overtimes ≤ t
  pub fresh_wakes : x.counts.fresh_wakes ≤ t
  pub kept_wakes : x.counts.kept_wakes ≤ t
  pub postponements : x.counts.postponements ≤ t
  pub yields : x.counts.yields ≤ t
  pub granted : x.counts.granted ≤ t
  pub refused : x.counts.refused ≤ t
  pub response : x.counts.response ≤ t * t

pub record IsSoundReport (t idle : ℕ) (xs : List TaskReport) : Type 0 where
  pub limit : t ≤ tick_limit
  pub idle_ticks : idle ≤ t
  pub count : length xs < 2 ^ 32
  pub tasks : All (IsSound t) xs
