-- The one legal history of a set of tasks, and the machine's state after it.
use Rattle.std.specs.Prelude.{ℕ, zero, suc, List, [], ◌∷◌, ◌++◌, map, Bool}
use Rattle.std.specs.List.{enumerate_from}
use Rattle.std.specs.Option.{option_map_or}
use Rattle.rt_exec.specs.Attempt.{attempt}
use Rattle.rt_image.specs.SystemFile.{TaskSet}
use Rattle.rt_history.specs.declared.record.Attempt.{Attempt}
use Rattle.rt_history.specs.declared.record.Record.{Record}
use Rattle.rt_history.specs.declared.record.Record.TheVariants.{Idle, Busy}
use Rattle.rt_history.specs.Program.{Program}
use Rattle.rt_history.specs.Calls.{attempt_at}
use Rattle.rt_history.specs.OwnPart.{task_state}
use Rattle.rt_history.specs.Named.{named_task}
use Rattle.rt_history.specs.MachineState.{MachineState}
use Rattle.rt_history.specs.Reservations.{grants}

-- the attempt of task i at tick t, where these budgets are granted
abbrev pub attempt_of : ℕ → ℕ → (ℕ → Bool) → Program → Attempt
attempt_of t i granted p = record { task = i; pc = p.state.pc; word = (attempt p.split p.state).word; outcome = (attempt_at t granted p).outcome }

-- The named task attempts an instruction; where none is named the tick is idle. A reserve is answered by what all tasks have.
abbrev pub record_at : MachineState → Record
record_at m = option_map_or (λ n. Busy (attempt_of m.tick n.0 (grants m n.0) n.1.program)) (named_task m.tasks) Idle

-- how a machine of this set stands after a history of t records
abbrev pub stands_after : TaskSet → ℕ → List Record → MachineState
stands_after s t history = record {
  hyper = s.hyper;
  tick = t;
  tasks = map (λ n. task_state t history n.0 n.1) (enumerate_from 0 s.tasks);
}

-- the legal history of t ticks: each record is what the records before it name
unfoldable pub legal : TaskSet → ℕ → List Record
legal s zero = []
legal s (suc t) = legal s t ++ record_at (stands_after s t (legal s t)) ∷ []

-- a machine of this set stands so after the t ticks of the legal history
unfoldable pub state_at : TaskSet → ℕ → MachineState
state_at s t = stands_after s t (legal s t)
