-- The history in which each task is busy from tick 0 on: it shows what a set demands.
use Rattle.std.specs.Prelude.{ℕ, zero, suc, List, [], ◌∷◌, ◌++◌, map, None}
use Rattle.std.specs.Option.{option_map_or}
use Rattle.rt_image.specs.SystemFile.{SetTask, TaskSet}
use Rattle.rt_history.specs.declared.record.AttemptOutcome.TheVariants.{Next}
use Rattle.rt_history.specs.declared.record.Record.{Record}
use Rattle.rt_history.specs.declared.record.Record.TheVariants.{Idle, Busy}
use Rattle.rt_history.specs.Named.{named_task}
use Rattle.rt_history.specs.MachineState.{MachineState}
use Rattle.rt_history.specs.Legal.{stands_after}

-- the task starts at tick 0
abbrev pub at_once : SetTask → SetTask
at_once s = record s { start = 0 }

abbrev pub all_at_once : TaskSet → TaskSet
all_at_once set = record set { tasks = map at_once set.tasks }

-- the named task carries out an instruction that is no call; to a server neither pc nor word matters
abbrev pub busy_record : MachineState → Record
busy_record m = option_map_or (λ n. Busy (record { task = n.0; pc = 0; word = None; outcome = Next })) (named_task m.tasks) Idle

unfoldable pub busy : TaskSet → ℕ → List Record
busy set zero = []
busy set (suc t) = busy set t ++ busy_record (stands_after (all_at_once set) t (busy set t)) ∷ []

-- how the tasks of a set stand after t ticks of that history
unfoldable pub busy_at : TaskSet → ℕ → MachineState
busy_at set t = stands_after (all_at_once set) t (busy set t)
