-- Waves over one tick.
use Rattle.std.specs.Prelude.{◌≡◌, ℕ, ◌+◌, ◌<◌, ◌≤◌, ◌++◌, nat_lt, Bool, false, ◌&&◌, if◌then◌else◌, List, [], length, map, All, slice_get, slice_set, Option, Some, None}
use Rattle.std.specs.List.{flat_map, enumerate_from}
use Rattle.std.specs.Option.{is_some, option_map_or}
use Rattle.rt_words.specs.Limits.{tick_limit}
use Rattle.rt_admit.specs.Limits.{task_limit}
use Rattle.rt_image.specs.SystemFile.{SetTask}
use Rattle.rt_history.specs.declared.mode.Mode.TheVariants.{Asleep}
use Rattle.rt_history.specs.declared.record.AttemptOutcome.{AttemptOutcome}
use Rattle.rt_history.specs.declared.record.AttemptOutcome.TheVariants.{Next}
use Rattle.rt_history.specs.declared.record.Attempt.{Attempt}
use Rattle.rt_history.specs.declared.record.Record.{Record}
use Rattle.rt_history.specs.declared.record.Record.TheVariants.{Idle}
use Rattle.rt_history.specs.Serving.{first_serving, due, after}
use Rattle.rt_history.specs.Job.{ends_job}
use Rattle.rt_history.specs.Working.Bounded.{IsBounded, taken}
use Rattle.rt_report.specs.Rows.{is_idle}
use Rattle.rt_report.specs.WideRows.{postpones, wakes_afresh, wakes_kept}
use Rattle.rt_waves.specs.declared.block.Telling.{Telling}
use Rattle.rt_waves.specs.declared.signals.TaskWaves.{TaskWaves}
use Rattle.rt_waves.specs.declared.track.Place.{Place}
use Rattle.rt_waves.specs.Waves.{mode_signal, part_begin, outcome_of}
use Rattle.rt_waves.specs.WavesText.{task_values, idle_value}
use Rattle.rt_waves.specs.Standing.{TaskStanding, WavesState, untold}
use Rattle.rt_waves.specs.Working.Telling.{told_line, told_lines, telling_at, block_of}

-- ---- one task

abbrev pub first_standing : SetTask → TaskStanding
first_standing s = record { serving = first_serving s; pc = s.object.entry; out = 0; labels = s.object.labels; told = untold }

-- its signals at time u, where a record of that tick came out so, or is of no attempt of the task
abbrev pub seen : ℕ → Option AttemptOutcome → TaskStanding → TaskWaves
seen u outcome x = record {
  running = is_some outcome;
  mode = mode_signal (due u x.serving).mode;
  pc = x.pc;
  part = part_begin x.labels x.pc;
  c = (due u x.serving).account.c;
  d = (due u x.serving).account.d;
  out = x.out;
  fresh = wakes_afresh u x.serving;
  kept = wakes_kept u x.serving;
  postponed = option_map_or (λ o. postpones (taken o (due u x.serving).account) (due u x.serving).account) outcome false;
  finish = option_map_or ends_job outcome false;
}

-- once the wakes of time u are applied, and its signals are told
abbrev pub visited : ℕ → Option AttemptOutcome → TaskStanding → TaskStanding
visited u outcome x = record x { serving = due u x.serving; told = seen u outcome x }

-- and once its record has gone
abbrev pub gone_on : ℕ → AttemptOutcome → Place → TaskStanding → TaskStanding
gone_on u o place x = record x { serving = after u (taken o x.serving.account) x.serving.account; pc = place.pc; out = place.output }

-- the lines of its signals
abbrev pub lines_of : Telling → ℕ → TaskWaves → TaskWaves → List ℕ
lines_of telling i before now = told_lines telling (task_values i before) (task_values i now)

-- ---- all tasks

abbrev pub visited_all : ℕ → Record → List TaskStanding → List TaskStanding
visited_all u r xs = map (λ n. visited u (outcome_of n.0 r) n.1) (enumerate_from 0 xs)

abbrev pub lines_all : Telling → ℕ → Record → List TaskStanding → List ℕ
lines_all telling u r xs = flat_map (λ n. lines_of telling n.0 n.1.told (seen u (outcome_of n.0 r) n.1)) (enumerate_from 0 xs)

-- the lines of a time
abbrev pub lines_at : Telling → ℕ → Record → Bool → List TaskStanding → List ℕ
lines_at telling u r idle xs = told_line telling (idle_value idle).value (idle_value (is_idle r)) ++ lines_all telling u r xs

abbrev pub gone_at : ℕ → Attempt → Place → List TaskStanding → List TaskStanding
gone_at u a place xs = option_map_or (λ x. slice_set xs a.task (gone_on u a.outcome place x)) (slice_get xs a.task) xs

-- the waves behind a record
abbrev pub gone_by : Attempt → Place → WavesState → WavesState
gone_by a place w = record w { tick = w.tick + 1; tasks = gone_at w.tick a place w.tasks }

-- the record of an instruction of task i that is no call: of one, these are all that the waves see
abbrev pub plain_of : ℕ → Attempt
plain_of i = record { task = i; pc = 0; word = None; outcome = Next }

-- the waves behind the block of their coming time
abbrev pub offered : Record → WavesState → WavesState
offered r w = record w { idle = is_idle r; tasks = visited_all w.tick r w.tasks }

abbrev pub block_by : Record → WavesState → List ℕ
block_by r w = block_of (telling_at w.from w.tick) w.tick (lines_at (telling_at w.from w.tick) w.tick r w.idle w.tasks)

-- and, where the window begins within idle ticks up to this one, behind that of its first time
abbrev pub passed_to : ℕ → WavesState → WavesState
passed_to end w = if nat_lt w.tick w.from && nat_lt w.from end then offered Idle (record w { tick = w.from }) else w

abbrev pub text_to : ℕ → WavesState → List ℕ
text_to end w = if nat_lt w.tick w.from && nat_lt w.from end then block_by Idle (record w { tick = w.from }) else []

-- behind n idle ticks
abbrev pub passed_idle : ℕ → WavesState → WavesState
passed_idle n w = record (passed_to (w.tick + n) (offered Idle w)) { tick = w.tick + n }

abbrev pub passed_text : ℕ → WavesState → List ℕ
passed_text n w = block_by Idle w ++ text_to (w.tick + n) (offered Idle w)

-- ---- what holds of all waves

-- a task that is asleep wakes at this tick or later
abbrev pub WakesFrom : ℕ → TaskStanding → Type 0
WakesFrom w x = (v : ℕ) → x.serving.mode ≡ Asleep v → w ≤ v

-- a task's signals are told as they stay while it neither wakes nor runs
abbrev pub rest : TaskStanding → TaskWaves
rest x = record {
  running = false;
  mode = mode_signal x.serving.mode;
  pc = x.pc;
  part = part_begin x.labels x.pc;
  c = x.serving.account.c;
  d = x.serving.account.d;
  out = x.out;
  fresh = false;
  kept = false;
  postponed = false;
  finish = false;
}

-- those of each task but the one that ran last
abbrev pub AreSettled : Option ℕ → List TaskStanding → Type 0
AreSettled last xs = (i : ℕ) (x : TaskStanding) → slice_get xs i ≡ Some x → (last ≡ Some i → ⊥) → x.told ≡ rest x

pub record IsSoundWaves (t w : ℕ) (unsettled : Bool) (last : Option ℕ) (xs : List TaskStanding) : Type 0 where
  pub limit : t ≤ tick_limit
  pub count : length xs ≤ task_limit
  pub tasks : All (λ x. IsBounded t x.serving.account) xs
  pub wakes : All (WakesFrom w) xs
  pub settled : unsettled ≡ false → AreSettled last xs
  pub there : (i : ℕ) → last ≡ Some i → i < length xs
