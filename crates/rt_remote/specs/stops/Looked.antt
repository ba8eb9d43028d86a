-- Which tasks are looked at, and which of them a stop is told of that is no task's own.
use Rattle.std.specs.Prelude.{ℕ, ◌||◌, ◌&&◌, ◌==◌, not, if◌then◌else◌, Bool, true, false, List, slice_get, replicate, Option, Some, None}
use Rattle.std.specs.List.{enumerate_from, list_all, list_any, position}
use Rattle.std.specs.Option.{option_map_or, is_some, unwrap_or}
use Rattle.rt_words.specs.Limits.{tick_limit}
use Rattle.rt_history.specs.declared.mode.Mode.{Mode}
use Rattle.rt_history.specs.declared.mode.Mode.TheVariants.{Active, Asleep, Ended, Faulted}
use Rattle.rt_history.specs.MachineState.{MachineState}
use Rattle.rt_core.specs.declared.view.Next.{Next}
use Rattle.rt_core.specs.declared.view.Next.TheVariants.{Idle, Run}
use Rattle.rt_core.specs.Next.{next_of}
use Rattle.rt_packet.specs.declared.request.actions.Action.{Action}
use Rattle.rt_packet.specs.declared.request.actions.Action.TheVariants.{Continue, Step}
use Rattle.rt_packet.specs.declared.answer.stops.Stop.{Stop}
use Rattle.rt_packet.specs.declared.answer.stops.Stop.TheVariants.{Plain, End, EndedBefore, FaultedBefore}

-- whether a task has an action
abbrev pub has_action : Option (Option Action) → Bool
has_action (Some (Some action)) = true
has_action _ = false

abbrev pub steps : Option (Option Action) → Bool
steps (Some (Some Step)) = true
steps _ = false

-- a task is looked at that has an action, and stepped where that is a step
abbrev pub is_looked : List (Option Action) → ℕ → Bool
is_looked actions i = has_action (slice_get actions i)

abbrev pub is_stepped : List (Option Action) → ℕ → Bool
is_stepped actions i = steps (slice_get actions i)

-- a task of this mode makes no tick any more
abbrev pub is_over : Mode → Bool
is_over Active = false
is_over (Asleep t) = false
is_over Ended = true
is_over (Faulted fault) = true

-- nor does one that isn't there
abbrev pub is_done : MachineState → ℕ → Bool
is_done m i = option_map_or (λ s. is_over s.serving.mode) (slice_get m.tasks i) true

-- whether an action is a step
abbrev pub is_step : Option Action → Bool
is_step None = false
is_step (Some Continue) = false
is_step (Some Step) = true

-- every task with such an action is ended or faulted
abbrev pub are_done : (Option Action → Bool) → List (Option Action) → MachineState → Bool
are_done is_such actions m = list_all (λ n. not (is_such n.1) || is_done m n.0) (enumerate_from 0 actions)

-- every looked-at task
abbrev pub are_over : List (Option Action) → MachineState → Bool
are_over actions m = are_done is_some actions m

-- every stepped one, and one is stepped
abbrev pub steps_are_over : List (Option Action) → MachineState → Bool
steps_are_over actions m = list_any is_step actions && are_done is_step actions m

-- nothing more can come: every task is over, or no tick is left
abbrev pub is_at_end : MachineState → Bool
is_at_end m = are_over (replicate 64 (Some Continue)) m || (m.tick == tick_limit)

-- how a task that is over stands: by its signal, and where nothing more can come, by that
abbrev pub stop_of : Mode → Stop
stop_of Ended = EndedBefore
stop_of (Faulted fault) = FaultedBefore fault
stop_of mode = Plain

abbrev pub task_stop : MachineState → ℕ → Stop
task_stop m i = option_map_or (λ s. stop_of s.serving.mode) (slice_get m.tasks i) Plain

abbrev pub standing : MachineState → ℕ → Stop
standing m i = if is_at_end m then End else task_stop m i

-- the shown task where it is looked at, else the least that is
abbrev pub other_teller : List (Option Action) → ℕ → ℕ
other_teller actions shown = if is_looked actions shown then shown else unwrap_or (position is_some actions) shown

-- the named task where it is looked at, else another
abbrev pub teller_by : List (Option Action) → ℕ → Next → ℕ
teller_by actions shown Idle = other_teller actions shown
teller_by actions shown (Run task pc) = if is_looked actions task then task else other_teller actions shown

abbrev pub teller : List (Option Action) → ℕ → MachineState → ℕ
teller actions shown m = teller_by actions shown (next_of m)

-- the shown task where it is stepped, else the least that is
abbrev pub step_teller : List (Option Action) → ℕ → ℕ
step_teller actions shown = if is_stepped actions shown then shown else unwrap_or (position is_step actions) shown
