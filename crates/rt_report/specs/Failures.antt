-- Which failures a task has in a run of t ticks, from its own part of the history.
use Rattle.std.specs.Prelude.{ℕ, ◌-◌, ◌/◌, length, nat_lt, Bool, true, false, ◌||◌, not, List, slice_get}
use Rattle.std.specs.List.{list_any}
use Rattle.std.specs.Option.{option_map_or}
use Rattle.rt_image.specs.SystemFile.{SetTask, TaskSet}
use Rattle.rt_history.specs.declared.mode.Mode.{Mode}
use Rattle.rt_history.specs.declared.mode.Mode.TheVariants.{Ended, Faulted}
use Rattle.rt_history.specs.declared.record.AttemptOutcome.{AttemptOutcome}
use Rattle.rt_history.specs.declared.record.Record.{Record}
use Rattle.rt_history.specs.Serving.{first_serving}
use Rattle.rt_history.specs.Program.{first_program}
use Rattle.rt_history.specs.OwnPart.{own, program_after, serving_after}
use Rattle.rt_history.specs.Job.{is_hard, jobs}
use Rattle.rt_laws.specs.OpenJob.{open_job}
use Rattle.rt_report.specs.WideRows.{is_refusal, is_over}
use Rattle.rt_report.specs.declared.failing.Failing.{Failing}
use Rattle.rt_report.specs.declared.failing.Failing.TheVariants as failing

abbrev pub has_faulted : Mode → Bool
has_faulted (Faulted fault) = true
has_faulted mode = false

-- an open job of this release, which a task that has ended doesn't have, has had more than the period by tick t
abbrev pub is_overdue : ℕ → ℕ → Mode → ℕ → Bool
is_overdue t period Ended release = false
is_overdue t period mode release = nat_lt period (t - release)

-- of jobs that are released from this tick on, a period apart, how many have had a period by tick t: those k with
-- start + k * period + period <= t
abbrev pub released_by : ℕ → ℕ → ℕ → ℕ
released_by start period t = (t - start) / period

-- the task has faulted; a response of a finished job is over the period, or that of the open one by tick t; a finished job isn't
-- hard; a reserve was refused; fewer jobs are finished than have had a period; a write was refused since the output had no room for it
abbrev pub fails_by : Failing → ℕ → SetTask → List (ℕ × AttemptOutcome) → Bool
fails_by failing.Fault t s own = has_faulted (serving_after (first_serving s) own).mode
fails_by failing.Over t s own =
    list_any (is_over s.period) (jobs s own)
    || is_overdue t s.period (serving_after (first_serving s) own).mode (open_job s own).release.tick
fails_by failing.Soft t s own = list_any (λ j. not (is_hard j)) (jobs s own)
fails_by failing.Refused t s own = list_any (λ e. is_refusal e.1) own
fails_by failing.Few t s own = nat_lt (length (jobs s own)) (released_by s.start s.period t)
fails_by failing.Lost t s own = (program_after (first_program s) own).full

-- of task i of a set, if it has one
abbrev pub has_failed : Failing → TaskSet → ℕ → List Record → ℕ → Bool
has_failed what set t history i = option_map_or (λ s. fails_by what t s (own i history)) (slice_get set.tasks i) false
