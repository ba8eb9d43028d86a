-- How waves stand after a history.
use Rattle.std.specs.Prelude.{◌≡◌, ℕ, zero, suc, nat_lt, if◌then◌else◌, Bool, false, List, [], length, map, slice_get, Some}
use Rattle.std.specs.List.{enumerate_from}
use Rattle.rt_image.specs.ObjectFile.{Label}
use Rattle.rt_image.specs.SystemFile.{SetTask, TaskSet}
use Rattle.rt_history.specs.Serving.{Serving, first_serving, due}
use Rattle.rt_history.specs.Program.{first_program}
use Rattle.rt_history.specs.OwnPart.{own, program_after, serving_after, TaskState}
use Rattle.rt_history.specs.Legal.{record_at, legal, state_at}
use Rattle.rt_report.specs.Rows.{is_idle}
use Rattle.rt_waves.specs.declared.signals.ModeSignal.TheVariants.{Asleep}
use Rattle.rt_waves.specs.declared.signals.TaskWaves.{TaskWaves}
use Rattle.rt_waves.specs.declared.track.Place.{Place}
use Rattle.rt_waves.specs.Waves.{task_waves}
use Rattle.rt_waves.specs.WavesText.{block}

-- what is kept of a task: its account and its mode with the wakes of the ticks so far, and without those of the coming one; its pc,
-- and how many bytes it has written; the symbols of its object; and its signals at the time before
pub record TaskStanding : Type 0 where
  pub serving : Serving
  pub pc : ℕ
  pub out : ℕ
  pub labels : List Label
  pub told : TaskWaves

-- before the first time
abbrev pub untold : TaskWaves
untold = record {
  running = false;
  mode = Asleep;
  pc = 0;
  part = 0;
  c = 0;
  d = 0;
  out = 0;
  fresh = false;
  kept = false;
  postponed = false;
  finish = false;
}

-- a server that stands so behind its task's last record, with the wakes of the ticks before t
abbrev pub due_before : ℕ → Serving → Serving
due_before zero v = v
due_before (suc u) v = due u v

abbrev pub told_before : TaskSet → ℕ → ℕ → SetTask → TaskWaves
told_before set zero i s = untold
told_before set (suc u) i s = task_waves set u i s

-- task i of a set after t ticks
abbrev pub task_standing : TaskSet → ℕ → ℕ → SetTask → TaskStanding
task_standing set t i s = record {
  serving = due_before t (serving_after (first_serving s) (own i (legal set t)));
  pc = (program_after (first_program s) (own i (legal set t))).state.pc;
  out = length (program_after (first_program s) (own i (legal set t))).output;
  labels = s.object.labels;
  told = told_before set t i s;
}

abbrev pub idle_before : TaskSet → ℕ → Bool
idle_before set zero = false
idle_before set (suc u) = is_idle (record_at (state_at set u))

-- where the window begins, the ticks that were added, whether the last of them was idle, and what is kept of each task
pub record WavesState : Type 0 where
  pub from : ℕ
  pub tick : ℕ
  pub idle : Bool
  pub tasks : List TaskStanding

-- the waves of this set from `from` on stand so after the t ticks of the legal history
unfoldable pub waves_at : TaskSet → ℕ → ℕ → WavesState
waves_at set from t = record {
  from = from;
  tick = t;
  idle = idle_before set t;
  tasks = map (λ n. task_standing set t n.0 n.1) (enumerate_from 0 set.tasks);
}

-- task i of this set stands at this place after the t ticks
abbrev pub IsAtPlace : TaskSet → ℕ → ℕ → Place → Type 0
IsAtPlace set t i place = (x : TaskState) → slice_get (state_at set t).tasks i ≡ Some x → (place.pc ≡ x.program.state.pc) × (place.output ≡ length x.program.output)

-- what is told of time u: nothing of one before the window
abbrev pub told_block : TaskSet → ℕ → ℕ → List ℕ
told_block set from u = if nat_lt u from then [] else block set from u
