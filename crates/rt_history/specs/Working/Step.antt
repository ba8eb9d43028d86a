-- One tick of a machine as a step between its states. That it gives the legal history is a law.
use Rattle.std.specs.Prelude.{◌≡◌, ℕ, ◌+◌, ◌<◌, List, map, slice_set, None, Bool}
use Rattle.std.specs.Option.{option_map_or}
use Rattle.rt_image.specs.SystemFile.{SetTask}
use Rattle.rt_history.specs.Program.{first_program}
use Rattle.rt_history.specs.Calls.{attempt_at}
use Rattle.rt_history.specs.Serving.{first_serving, due, after}
use Rattle.rt_history.specs.OwnPart.{TaskState}
use Rattle.rt_history.specs.Named.{named, named_task}
use Rattle.rt_history.specs.MachineState.{MachineState}
use Rattle.rt_history.specs.Reservations.{grants}

-- a task before its first wake
abbrev pub first_task : SetTask → TaskState
first_task s = record { program = first_program s; serving = first_serving s }

-- a task with the wakes of tick t applied
abbrev pub woken_task : ℕ → TaskState → TaskState
woken_task t s = record { program = s.program; serving = due t s.serving }

-- a task after its attempt at tick t, where these budgets are granted
abbrev pub ran : ℕ → (ℕ → Bool) → TaskState → TaskState
ran t granted s = record {
  program = (attempt_at t granted s.program).program;
  serving = after t (attempt_at t granted s.program).outcome s.serving.account;
}

-- the tasks after the attempt of the named one
abbrev pub ran_at : MachineState → List TaskState
ran_at m = option_map_or (λ n. slice_set m.tasks n.0 (ran m.tick (grants m n.0) n.1)) (named_task m.tasks) m.tasks

-- the attempt of a tick, and then the wakes of the next
abbrev pub next_state : MachineState → MachineState
next_state m = record { hyper = m.hyper; tick = m.tick + 1; tasks = map (woken_task (m.tick + 1)) (ran_at m) }

-- n idle ticks, and the wakes of the tick after them
abbrev pub passed : ℕ → MachineState → MachineState
passed n m = record { hyper = m.hyper; tick = m.tick + n; tasks = map (woken_task (m.tick + n)) m.tasks }

-- no task is named at the first of n ticks, and none wakes before the tick after them
pub record IsIdleFor (n : ℕ) (m : MachineState) : Type 0 where
  pub idle : named m.tasks ≡ None
  pub quiet : (k : ℕ) → 0 < k → k < n → map (woken_task (m.tick + k)) m.tasks ≡ m.tasks
