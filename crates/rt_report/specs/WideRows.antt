-- What a wide report adds to a task's row: its state at the end, and what its jobs and its server did.
use Rattle.std.specs.Prelude.{ℕ, ◌+◌, max, nat_le, nat_lt, Bool, true, false, ◌&&◌, not, cond, List, [], ◌∷◌, map, count_by, sum_by}
use Rattle.std.specs.List.{reduce, enumerate_from}
use Rattle.rt_server.specs.Account.{Account}
use Rattle.rt_server.specs.Arrival.{wakes_fresh}
use Rattle.rt_image.specs.SystemFile.{SetTask, TaskSet}
use Rattle.rt_history.specs.declared.mode.Mode.{Mode}
use Rattle.rt_history.specs.declared.mode.Mode.TheVariants.{Asleep}
use Rattle.rt_history.specs.declared.record.AttemptOutcome.{AttemptOutcome}
use Rattle.rt_history.specs.declared.record.AttemptOutcome.TheVariants.{Yield, Reserve, ReserveRefused}
use Rattle.rt_history.specs.declared.record.Record.{Record}
use Rattle.rt_history.specs.Serving.{Serving, first_serving, due, charged, after}
use Rattle.rt_history.specs.OwnPart.{own, serving_after, task_state}
use Rattle.rt_history.specs.Job.{Job, response, jobs}
use Rattle.rt_report.specs.declared.wide_row.WideCounts.{WideCounts}
use Rattle.rt_report.specs.declared.wide_row.WideRow.{WideRow}
use Rattle.rt_report.specs.Rows.{row_of}

-- a record, and how the task stood before it, without the wakes since the record before
pub record Moment : Type 0 where
  pub tick : ℕ
  pub outcome : AttemptOutcome
  pub before : Serving

abbrev pub moments : Serving → List (ℕ × AttemptOutcome) → List Moment
moments s [] = []
moments s (e ∷ es) = record { tick = e.0; outcome = e.1; before = s } ∷ moments (after e.0 e.1 (due e.0 s).account) es

-- a task that is asleep has woken by tick t, afresh, or with its account kept
abbrev pub fresh_in : ℕ → Mode → Account → Bool
fresh_in t (Asleep w) a = nat_le w t && wakes_fresh w a
fresh_in t mode a = false

abbrev pub wakes_afresh : ℕ → Serving → Bool
wakes_afresh t s = fresh_in t s.mode s.account

abbrev pub kept_in : ℕ → Mode → Account → Bool
kept_in t (Asleep w) a = nat_le w t && not (wakes_fresh w a)
kept_in t mode a = false

abbrev pub wakes_kept : ℕ → Serving → Bool
wakes_kept t s = kept_in t s.mode s.account

-- a record that moves the deadline on: the budget is used up, or given up
abbrev pub postpones : AttemptOutcome → Account → Bool
postpones o a = nat_lt a.d (charged o a).d

abbrev pub is_yield : AttemptOutcome → Bool
is_yield Yield = true
is_yield _ = false

-- a reserve that was granted, and one that was refused
abbrev pub is_grant : AttemptOutcome → Bool
is_grant (Reserve q) = true
is_grant _ = false

abbrev pub is_refusal : AttemptOutcome → Bool
is_refusal ReserveRefused = true
is_refusal _ = false

-- the response is over the period, whether the job is hard or not
abbrev pub is_over : ℕ → Job → Bool
is_over period j = nat_lt period (response j)

-- what these finished jobs and these records tell, each wake before a record being told with it
abbrev pub counts_with : SetTask → List Moment → List Job → WideCounts
counts_with s ms js = record {
  most_ticks = reduce max (map (λ j. j.ticks) js);
  overtimes = count_by (is_over s.period) js;
  fresh_wakes = count_by (λ m. wakes_afresh m.tick m.before) ms;
  kept_wakes = count_by (λ m. wakes_kept m.tick m.before) ms;
  postponements = count_by (λ m. postpones m.outcome (due m.tick m.before).account) ms;
  yields = count_by (λ m. is_yield m.outcome) ms;
  granted = count_by (λ m. is_grant m.outcome) ms;
  refused = count_by (λ m. is_refusal m.outcome) ms;
  response = sum_by response js;
}

-- what an own part tells
abbrev pub counts_of : SetTask → List (ℕ × AttemptOutcome) → WideCounts
counts_of s records = counts_with s (moments (first_serving s) records) (jobs s records)

-- and with the wake of a task that stands so and is asleep, where that has come by tick t
abbrev pub with_wake : ℕ → Serving → WideCounts → WideCounts
with_wake t s c = record c {
  fresh_wakes = c.fresh_wakes + cond (wakes_afresh t s) 1 0;
  kept_wakes = c.kept_wakes + cond (wakes_kept t s) 1 0;
}

-- the wide row of task i after a history of t ticks
abbrev pub wide_row_of : ℕ → List Record → ℕ → SetTask → WideRow
wide_row_of t history i s = record {
  row = row_of i s (own i history);
  stands = (task_state t history i s).serving.mode;
  counts = with_wake t (serving_after (first_serving s) (own i history)) (counts_of s (own i history));
  budget = (task_state t history i s).serving.account.q;
  period = (task_state t history i s).serving.account.p;
}

-- a wide row for each task of a set
abbrev pub wide_rows : TaskSet → ℕ → List Record → List WideRow
wide_rows set t history = map (λ n. wide_row_of t history n.0 n.1) (enumerate_from 0 set.tasks)
