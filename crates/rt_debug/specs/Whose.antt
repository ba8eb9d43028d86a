-- Of which task an event is that a command asks for.
use Rattle.std.specs.Prelude.{ℕ, nat_lt, ◌==◌, if◌then◌else◌, List, length, position, bytes_eq, Option, Some, None, Result, Ok, Err}
use Rattle.std.specs.Option.{option_map_or}
use Rattle.rt_history.specs.MachineState.{MachineState}
use Rattle.rt_names.specs.TaskWords.{having}
use Rattle.rt_command.specs.declared.command.Whose.{Whose}
use Rattle.rt_command.specs.declared.command.Whose.TheVariants.{Every, Number, Named}
use Rattle.rt_command.specs.declared.refusal.Refusal.{Refusal}
use Rattle.rt_command.specs.declared.refusal.Refusal.TheVariants.{UnknownTask}

-- the one task that has this name, the tasks having these
abbrev pub named : List (List ℕ) → List ℕ → Option ℕ
named names name = if having name names == 1 then position (λ n. bytes_eq n name) names else None

-- this task, if the machine has it
abbrev pub in_machine : MachineState → ℕ → Result (Option ℕ) Refusal
in_machine m i = if nat_lt i (length m.tasks) then Ok (Some i) else Err UnknownTask

-- the task that is meant, none where all are
abbrev pub meant : List (List ℕ) → MachineState → Whose → Result (Option ℕ) Refusal
meant names m Every = Ok None
meant names m (Number i) = in_machine m i
meant names m (Named name) = option_map_or (in_machine m) (named names name) (Err UnknownTask)
