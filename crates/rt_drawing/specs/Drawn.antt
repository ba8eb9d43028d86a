-- What is kept of a task, one record more.
use Rattle.std.specs.Prelude.{ℕ, zero, suc, ◌+◌, ◌*◌, ◌≤◌, ◌==◌, nat_le, nat_lt, max, if◌then◌else◌, Bool, ◌&&◌, Option, None, Some, List, [], ◌∷◌, ◌++◌, length}
use Rattle.std.specs.Option.{option_or}
use Rattle.rt_image.specs.SystemFile.{SetTask}
use Rattle.rt_names.specs.TaskName.{task_name}
use Rattle.rt_history.specs.declared.record.AttemptOutcome.{AttemptOutcome}
use Rattle.rt_history.specs.declared.record.AttemptOutcome.TheVariants.{Next}
use Rattle.rt_history.specs.Admitted.{params_in}
use Rattle.rt_history.specs.Serving.{Serving, first_serving, due, charged, after}
use Rattle.rt_history.specs.Working.Bounded.{IsBounded, taken}
use Rattle.rt_drawing.specs.declared.job.Job.{Job}
use Rattle.rt_drawing.specs.declared.mark.Mark.{Mark}
use Rattle.rt_drawing.specs.declared.stretch.Stretch.{Stretch}
use Rattle.rt_drawing.specs.declared.window.Window.{Window}
use Rattle.rt_drawing.specs.Jobs.{first_job, ticked, job_by}
use Rattle.rt_drawing.specs.Waits.{stretch, turn_waits, is_over}
use Rattle.rt_drawing.specs.Stretches.{alike}
use Rattle.rt_drawing.specs.Marks.{woken_marks, charge_marks, outcome_marks}
use Rattle.rt_drawing.specs.Misses.{miss_by}
use Rattle.rt_drawing.specs.Drawing.{in_window}
use Rattle.rt_drawing.specs.Standing.{TaskDrawing, next_turn}

-- ticks from one on, of a job of this number, go on with a stretch: it ends where they begin, and they are alike
abbrev pub goes_on : Stretch → ℕ → Bool → ℕ → Bool
goes_on s from over number = s.to == from && alike s.over s.job.number over number

-- the ticks from one on, up to another, behind these stretches: in the last of them where they go on with that. With the last of them
-- their job has come so far.
abbrev pub ticks_behind : ℕ → ℕ → Bool → Job → List Stretch → List Stretch
ticks_behind from to over j [] = stretch from to over j ∷ []
ticks_behind from to over j (s ∷ []) =
    if goes_on s from over j.number then stretch s.from to over j ∷ [] else s ∷ stretch from to over j ∷ []
ticks_behind from to over j (s ∷ x ∷ later) = s ∷ ticks_behind from to over j (x ∷ later)

-- those of the ticks from u on, up to another, that a picture shows
abbrev pub shown_behind : Window → ℕ → ℕ → Bool → Job → List Stretch → List Stretch
shown_behind w u to over j xs = if nat_lt w.from to then ticks_behind (max w.from u) to over j xs else xs

-- the budget at the begin of a picture, once a record of that tick or later is told: of tick u, the server standing so before it
abbrev pub noted : ℕ → ℕ → Option ℕ → Serving → Option ℕ
noted from u (Some q) s = Some q
noted from u None s = if nat_le from u then Some (due from s).account.q else None

-- the marks of a record that the server takes as k, the task standing so before it
abbrev pub marks_as : ℕ → AttemptOutcome → AttemptOutcome → Serving → List Mark
marks_as u o k s = woken_marks u s ++ charge_marks u o (due u s).account (charged k (due u s).account) ++ outcome_marks u o

-- one record more, which the server takes as k
abbrev pub drawn_as : Window → ℕ → AttemptOutcome → AttemptOutcome → TaskDrawing → TaskDrawing
drawn_as w u o k x = record {
  name = x.name;
  params = x.params;
  allowed = x.allowed;
  serving = after u k (due u x.serving).account;
  budget = noted w.from u x.budget x.serving;
  job = job_by x.job o;
  behind = u + 1;
  waits = x.waits ++ turn_waits w (next_turn u x);
  stretches = shown_behind w u (u + 1) (is_over (next_turn u x)) (ticked 1 x.job) x.stretches;
  marks = x.marks ++ in_window w (marks_as u o k x.serving);
  miss = option_or x.miss (miss_by x.behind u x.serving);
}

abbrev pub drawn : Window → ℕ → AttemptOutcome → TaskDrawing → TaskDrawing
drawn w u o x = drawn_as w u o (taken o (due u x.serving).account) x

-- n plain records from tick u on, one by one
unfoldable pub drawn_for : Window → ℕ → ℕ → TaskDrawing → TaskDrawing
drawn_for w u zero x = x
drawn_for w u (suc n) x = drawn w (u + n) Next (drawn_for w u n x)

-- task i of a set, whose responses may take so many ticks, before its first record
abbrev pub first_drawing : ℕ → ℕ → SetTask → TaskDrawing
first_drawing allowed i s = record {
  name = task_name i s.object;
  params = params_in s;
  allowed = allowed;
  serving = first_serving s;
  budget = None;
  job = first_job s;
  behind = 0;
  waits = [];
  stretches = [];
  marks = [];
  miss = None;
}

-- what holds of what is kept of a task at tick t: the account is bounded, its last record is before that tick, and the numbers of jobs, of
-- their ticks, and of waits, stretches and marks are bounded
pub record IsSound (t : ℕ) (x : TaskDrawing) : Type 0 where
  pub account : IsBounded t x.serving.account
  pub behind : x.behind ≤ t
  pub number : x.job.number ≤ t
  pub ticks : x.job.ticks ≤ t
  pub waits : length x.waits ≤ 2 * t
  pub stretches : length x.stretches ≤ t
  pub marks : length x.marks ≤ 5 * t
