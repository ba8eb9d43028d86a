-- A report's state after a history.
use Rattle.std.specs.Prelude.{ℕ, List, [], ◌∷◌, map}
use Rattle.std.specs.List.{enumerate_from}
use Rattle.rt_image.specs.SystemFile.{SetTask, TaskSet}
use Rattle.rt_history.specs.declared.record.Record.{Record}
use Rattle.rt_history.specs.Serving.{Serving, first_serving, due}
use Rattle.rt_history.specs.declared.record.AttemptOutcome.{AttemptOutcome}
use Rattle.rt_history.specs.OwnPart.{own, serving_after}
use Rattle.rt_history.specs.Job.{release_of, account_after}
use Rattle.rt_history.specs.Legal.{legal}
use Rattle.rt_laws.specs.OpenJob.{OpenJob, open_job}
use Rattle.rt_report.specs.declared.row.Row.{Row}
use Rattle.rt_report.specs.declared.wide_row.WideCounts.{WideCounts}
use Rattle.rt_report.specs.declared.wide_row.WideRow.{WideRow}
use Rattle.rt_report.specs.Rows.{row_of, idle_ticks}
use Rattle.rt_report.specs.WideRows.{counts_of, with_wake}
use Rattle.rt_report.specs.JobDetails.{Cut, cut, end_of, account_from}

-- from the first record of an open job to the end of its last, both 0 where it has none, and the server's deadline from its
-- release on
pub record OpenSpan : Type 0 where
  pub first : ℕ
  pub end : ℕ
  pub deadline : ℕ

abbrev pub first_tick : List (ℕ × AttemptOutcome) → ℕ
first_tick [] = 0
first_tick (e ∷ es) = e.0

-- of an own part that is cut so
abbrev pub span_from : SetTask → Cut → OpenSpan
span_from s c = record {
  first = first_tick c.piece;
  end = end_of 0 c.piece;
  deadline = (account_from (release_of s c.before) (account_after s c.before)).d;
}

-- what a report keeps of a task: its account and its mode without the wakes since its last record, its open job with its span, its
-- row, the counts of its wide row without those wakes, and the tick of its first release
pub record TaskReport : Type 0 where
  pub serving : Serving
  pub open_job : OpenJob
  pub span : OpenSpan
  pub row : Row
  pub counts : WideCounts
  pub start : ℕ

-- task i of a set after a history, from its own records alone
abbrev pub task_report : List Record → ℕ → SetTask → TaskReport
task_report history i s = record {
  serving = serving_after (first_serving s) (own i history);
  open_job = open_job s (own i history);
  span = span_from s (cut (own i history));
  row = row_of i s (own i history);
  counts = counts_of s (own i history);
  start = s.start;
}

-- the wide row of a task of which this is kept, at tick t: the wakes up to then are applied
abbrev pub wide_row_at : ℕ → TaskReport → WideRow
wide_row_at t x = record {
  row = x.row;
  stands = (due t x.serving).mode;
  counts = with_wake t x.serving x.counts;
  budget = (due t x.serving).account.q;
  period = (due t x.serving).account.p;
}

-- the ticks that were told, those of them that were idle, and what is kept of each task
pub record ReportState : Type 0 where
  pub tick : ℕ
  pub idle : ℕ
  pub tasks : List TaskReport

-- a report of this set stands so after the t ticks of the legal history
unfoldable pub report_at : TaskSet → ℕ → ReportState
report_at set t = record { tick = t; idle = idle_ticks (legal set t); tasks = map (λ n. task_report (legal set t) n.0 n.1) (enumerate_from 0 set.tasks) }
