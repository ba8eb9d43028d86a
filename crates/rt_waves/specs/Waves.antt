-- The waves of the legal history of a set: the value of each signal at a time u, that is after u records and by record u.
use Rattle.std.specs.Prelude.{ℕ, ◌==◌, nat_le, if◌then◌else◌, max, Bool, false, ◌&&◌, not, List, [], ◌∷◌, map, length, Option, Some, None}
use Rattle.std.specs.List.{enumerate_from}
use Rattle.std.specs.Option.{is_some, option_map_or}
use Rattle.rt_server.specs.Arrival.{wakes_fresh}
use Rattle.rt_image.specs.ObjectFile.{Label}
use Rattle.rt_image.specs.SystemFile.{SetTask, TaskSet}
use Rattle.rt_history.specs.declared.mode.Mode.{Mode}
use Rattle.rt_history.specs.declared.mode.Mode.TheVariants as modes
use Rattle.rt_history.specs.declared.record.AttemptOutcome.{AttemptOutcome}
use Rattle.rt_history.specs.declared.record.Record.{Record}
use Rattle.rt_history.specs.declared.record.Record.TheVariants.{Idle, Busy}
use Rattle.rt_history.specs.Serving.{Serving, first_serving}
use Rattle.rt_history.specs.OwnPart.{own, serving_after, TaskState, task_state}
use Rattle.rt_history.specs.Job.{ends_job}
use Rattle.rt_history.specs.Legal.{record_at, legal, state_at}
use Rattle.rt_report.specs.Rows.{is_idle}
use Rattle.rt_report.specs.WideRows.{postpones}
use Rattle.rt_waves.specs.declared.signals.ModeSignal.{ModeSignal}
use Rattle.rt_waves.specs.declared.signals.ModeSignal.TheVariants.{Asleep, Active, Ended, Faulted}
use Rattle.rt_waves.specs.declared.signals.TaskWaves.{TaskWaves}

abbrev pub mode_signal : Mode → ModeSignal
mode_signal (modes.Asleep w) = Asleep
mode_signal modes.Active = Active
mode_signal modes.Ended = Ended
mode_signal (modes.Faulted fault) = Faulted

-- the greatest of these addresses that is at most a, and 0 where there is none
abbrev pub greatest_upto : ℕ → List ℕ → ℕ
greatest_upto a [] = 0
greatest_upto a (b ∷ bs) = if nat_le b a then max b (greatest_upto a bs) else greatest_upto a bs

-- where the part of an address begins: at the last symbol that stands at the address or below it
abbrev pub part_begin : List Label → ℕ → ℕ
part_begin ls a = greatest_upto a (map (λ l. l.address) ls)

-- how the attempt of a record came out, where it is one of task i
abbrev pub outcome_of : ℕ → Record → Option AttemptOutcome
outcome_of i Idle = None
outcome_of i (Busy a) = if a.task == i then Some a.outcome else None

-- a task that is asleep until tick u wakes at u
abbrev pub wakes_at : ℕ → Mode → Bool
wakes_at u (modes.Asleep w) = w == u
wakes_at u mode = false

-- the signals of a task at time u: so it stands then, so its server stood behind its last record, and so record u is its own
abbrev pub waves_of : ℕ → List Label → TaskState → Serving → Option AttemptOutcome → TaskWaves
waves_of u ls x behind outcome = record {
  running = is_some outcome;
  mode = mode_signal x.serving.mode;
  pc = x.program.state.pc;
  part = part_begin ls x.program.state.pc;
  c = x.serving.account.c;
  d = x.serving.account.d;
  out = length x.program.output;
  fresh = wakes_at u behind.mode && wakes_fresh u behind.account;
  kept = wakes_at u behind.mode && not (wakes_fresh u behind.account);
  postponed = option_map_or (λ o. postpones o x.serving.account) outcome false;
  finish = option_map_or ends_job outcome false;
}

-- those of task i
abbrev pub task_waves : TaskSet → ℕ → ℕ → SetTask → TaskWaves
task_waves set u i s =
    waves_of u s.object.labels (task_state u (legal set u) i s) (serving_after (first_serving s) (own i (legal set u)))
    (outcome_of i (record_at (state_at set u)))

-- whether the tick is idle, and the signals of each task
pub record Waves : Type 0 where
  pub idle : Bool
  pub tasks : List TaskWaves

abbrev pub waves : TaskSet → ℕ → Waves
waves set u = record { idle = is_idle (record_at (state_at set u)); tasks = map (λ n. task_waves set u n.0 n.1) (enumerate_from 0 set.tasks) }
