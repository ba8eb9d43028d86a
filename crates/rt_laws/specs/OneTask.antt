-- The history of a task that is alone in its set: without a server, a deadline or another task.
use Rattle.std.specs.Prelude.{ℕ, zero, suc, ◌+◌, nat_le, ◌&&◌, if◌then◌else◌, Bool, List, [], ◌∷◌, ◌++◌}
use Rattle.rt_image.specs.SystemFile.{SetTask}
use Rattle.rt_history.specs.declared.mode.Mode.{Mode}
use Rattle.rt_history.specs.declared.mode.Mode.TheVariants.{Active, Asleep, Ended, Faulted}
use Rattle.rt_history.specs.declared.record.Record.{Record}
use Rattle.rt_history.specs.declared.record.Record.TheVariants.{Idle, Busy}
use Rattle.rt_history.specs.Program.{Program, first_program}
use Rattle.rt_history.specs.Calls.{attempt_at}
use Rattle.rt_history.specs.Serving.{mode_after}
use Rattle.rt_history.specs.Legal.{attempt_of}

-- its program, and whether it goes on
pub record Lone : Type 0 where
  pub program : Program
  pub mode : Mode

-- awake from the tick of its wake on
abbrev pub awake_at : ℕ → Mode → Mode
awake_at t (Asleep w) = if nat_le w t then Active else Asleep w
awake_at t mode = mode

-- it may reserve each budget from 1 to its period
abbrev pub granted_within : ℕ → ℕ → Bool
granted_within period q = nat_le 1 q && nat_le q period

-- Where it is active it attempts an instruction, else the tick is idle.
abbrev pub lone_record : ℕ → ℕ → Mode → Program → Record
lone_record period t Active p = Busy (attempt_of t 0 (granted_within period) p)
lone_record period t (Asleep w) p = Idle
lone_record period t Ended p = Idle
lone_record period t (Faulted fault) p = Idle

abbrev pub lone_next : ℕ → ℕ → Mode → Program → Lone
lone_next period t Active p = record {
  program = (attempt_at t (granted_within period) p).program;
  mode = awake_at (t + 1) (mode_after t (attempt_at t (granted_within period) p).outcome);
}
lone_next period t (Asleep w) p = record { program = p; mode = awake_at (t + 1) (Asleep w) }
lone_next period t Ended p = record { program = p; mode = Ended }
lone_next period t (Faulted fault) p = record { program = p; mode = Faulted fault }

-- how it stands after t ticks
abbrev pub lone : SetTask → ℕ → Lone
lone s zero = record { program = first_program s; mode = awake_at 0 (Asleep s.start) }
lone s (suc t) = lone_next s.period t (lone s t).mode (lone s t).program

-- its history of t ticks
abbrev pub lone_history : SetTask → ℕ → List Record
lone_history s zero = []
lone_history s (suc t) = lone_history s t ++ lone_record s.period t (lone s t).mode (lone s t).program ∷ []
