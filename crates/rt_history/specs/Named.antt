-- The task that runs next: the active one of the least deadline, then number (earliest deadline first, Liu and Layland 1973).
use Rattle.std.specs.Prelude.{ℕ, List, map, slice_get, Option, Some, None}
use Rattle.std.specs.Option.{option_and_then, option_map}
use Rattle.rt_queue.specs.Least.{least_from}
use Rattle.rt_history.specs.declared.mode.Mode.{Mode}
use Rattle.rt_history.specs.declared.mode.Mode.TheVariants.{Active, Asleep, Ended, Faulted}
use Rattle.rt_history.specs.OwnPart.{TaskState}

-- the deadline of a task that is active
abbrev pub deadline_in : Mode → ℕ → Option ℕ
deadline_in Active d = Some d
deadline_in (Asleep _) d = None
deadline_in Ended d = None
deadline_in (Faulted _) d = None

abbrev pub deadline : TaskState → Option ℕ
deadline s = deadline_in s.serving.mode s.serving.account.d

-- the deadline and the number of the task that runs next; none where no task is active
abbrev pub named : List TaskState → Option (ℕ × ℕ)
named tasks = least_from 0 (map deadline tasks)

-- its number, and how it stands
abbrev pub named_task : List TaskState → Option (ℕ × TaskState)
named_task tasks = option_and_then (λ least. option_map (λ s. (least.1, s)) (slice_get tasks least.1)) (named tasks)
